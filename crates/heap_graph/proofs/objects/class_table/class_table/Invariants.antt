-- The builder has the classes among the objects before the next class dump, and reads the same bytes.
use Rattle.heap_graph.proofs.Words.{AreClassesAmong, AreIndexed, List, SubRecord, length, slice_index_or, ◌≡◌}
use Rattle.heap_graph.proofs.objects.class_table.class_table.Given as goal

abbrev pub invariant-loop-number : goal.invariant-loop-number
invariant-loop-number g l = record {
  view : l.classes.view ≡ l.fn.view;
  among : (heap : List SubRecord) → AreIndexed l.fn.view l.places heap l.indexed → AreClassesAmong l.fn.view heap
      (slice_index_or l.indexed.class_dumps.items l.number-index (length l.places)) l.classes.table.entries;
}
