-- The table has what the entries visited so far say, over what the classes' table says.
use Rattle.std.proofs.Common.{Some, false, get_or, length, take, true, ℕ, ◌≡◌}
use Rattle.heap_graph.specs.ObjectGraph.{object_count}
use Rattle.label_sets.specs.Sets.{Extends}
use Rattle.labelled_graph.specs.declared.mark.Mark.{Mark}
use Rattle.labelled_graph.specs.working.MarkMaps.{mark_at}
use Rattle.labelled_graph.specs.working.Reads.{class_of_object}
use Rattle.labelled_graph.specs.working.Saying.{AreMarks, object_place}
use Rattle.labelled_graph.proofs.reading.object_marks.Given as goal

abbrev pub invariant-loop-entry : goal.invariant-loop-entry
invariant-loop-entry g l = record {
  extends : Extends l.initial.store l.store;
  are : AreMarks l.store l.entries (class_of_object l.graph) (take l.entry-index l.entries)
      (object_place l.graph.ids) l.marks.marks;
  covered : (o i : ℕ) (mark : Mark) → mark_at l.marks.marks o i ≡ Some mark → get_or l.has.items o false ≡ true;
  many : length l.has.items ≡ object_count l.graph;
}
