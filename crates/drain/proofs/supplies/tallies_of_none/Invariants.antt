-- Each tally so far is of no object.
use Rattle.drain.proofs.Words.{AreTalliesOfNone, Measure, vec_capacity, vec_len, ◌-◌, ◌≡◌, ◌≤◌}
use Rattle.drain.proofs.supplies.tallies_of_none.Given as goal

abbrev pub decreases-loop-alloc : goal.decreases-loop-alloc
decreases-loop-alloc g l = l.workers - vec_len l.tallies

abbrev pub invariant-loop-alloc : goal.invariant-loop-alloc
invariant-loop-alloc g l =
    (l.workers ≤ vec_capacity l.tallies) × (vec_len l.tallies ≤ l.workers)
    × ((m : Measure) → m.rows ≡ l.rows → AreTalliesOfNone m l.tallies.items)
