-- The list has the marks of the entries that were visited.
use Rattle.std.proofs.Common.{◌++◌, ◌≡◌}
use Rattle.labelled_graph.specs.working.MarkMaps.{mark_entries}
use Rattle.labelled_graph.proofs.marks.Marks.of_key.Given as goal

abbrev pub invariant-loop-place : goal.invariant-loop-place
invariant-loop-place g l =
    l.list.items ++ mark_entries l.place-iterator ≡ mark_entries l.initial.place-iterator
