-- The objects before the remaining ones are counted.
use Rattle.histogram.specs.working.Unmarked.{unmarked_from}
use Rattle.histogram.proofs.UnmarkedLaws.{HasCounted}
use Rattle.histogram.proofs.unmarked.count_in_turn.Given as goal

abbrev pub invariant-loop-object : goal.invariant-loop-object
invariant-loop-object g l =
    (goal.iterator-loop-object g).can_next l.object-iterator
    × (goal.iterator-loop-object g).is_finite l.object-iterator
    × HasCounted l.graph (unmarked_from l.marks.marks 0) l.object-iterator l.left
