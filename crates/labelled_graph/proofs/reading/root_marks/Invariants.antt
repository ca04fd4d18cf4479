-- The table has what the entries visited so far say.
use Rattle.std.proofs.Common.{[], take}
use Rattle.label_sets.specs.Sets.{Extends}
use Rattle.labelled_graph.specs.working.Saying.{AreMarks, root_place, no_place}
use Rattle.labelled_graph.proofs.reading.root_marks.Given as goal

abbrev pub invariant-loop-entry : goal.invariant-loop-entry
invariant-loop-entry g l = record {
  extends : Extends l.initial.store l.store;
  are : AreMarks l.store [] no_place (take l.entry-index l.entries) root_place l.marks.marks;
}
