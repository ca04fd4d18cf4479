-- The objects before the remaining ones are counted.
use Rattle.histogram.specs.working.Unmarked.{unmarked_from}
use Rattle.histogram.proofs.UnmarkedLaws.{HasCounted}
use Rattle.histogram.proofs.unmarked.count_in_batches.Given as goal

abbrev pub invariant-loop-first : goal.invariant-loop-first
invariant-loop-first g l =
    (goal.iterator-loop-first g).can_next l.numbers
    × (goal.iterator-loop-first g).is_finite l.numbers
    × HasCounted l.graph (unmarked_from l.marks.marks 0) l.numbers l.left
