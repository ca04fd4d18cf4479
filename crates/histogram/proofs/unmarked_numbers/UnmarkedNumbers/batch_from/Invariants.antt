-- The batch and the numbers that still remain are the first number and those that remained at first. The batch has
-- at most 262,144 numbers.
use Rattle.std.proofs.Common.{◌≡◌, ◌≤◌, ◌++◌, ◌∷◌, length}
use Rattle.histogram.proofs.unmarked_numbers.UnmarkedNumbers.batch_from.Given as goal

abbrev pub invariant-loop-self : goal.invariant-loop-self
invariant-loop-self g l =
    (l.first ∷ l.fn.self ≡ l.batch.items ++ l.self) × (length l.self ≤ length l.fn.self)
    × (length l.batch.items ≤ 262144)

abbrev pub decreases-loop-self : goal.decreases-loop-self
decreases-loop-self g l = length l.self
