-- Each class visited so far has its list.
use Rattle.std.proofs.Common.{[], get_or, length, map, ℕ, ◌<◌, ◌≡◌}
use Rattle.heap_graph.specs.ObjectGraph.{class_at}
use Rattle.labelled_graph.specs.working.MarkMaps.{IsListOf}
use Rattle.labelled_graph.proofs.class_marks.ClassMarks.of.Given as goal

abbrev pub invariant-loop-class : goal.invariant-loop-class
invariant-loop-class g l = record {
  many : length l.lists.items ≡ l.class;
  each : (n : ℕ) → n < l.class
      → IsListOf l.marks.marks (class_at l.graph n).id (get_or (map (λ list. list.items) l.lists.items) n []);
}
