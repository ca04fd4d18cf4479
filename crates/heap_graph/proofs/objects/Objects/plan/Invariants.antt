-- The classes so far are planned.
use Rattle.heap_graph.proofs.Words.{AreClassObjects, AreClassPlans, AreNamesByIdOf, HaveFatesOf, List, Record, heap_of}
use Rattle.heap_graph.proofs.Words.{ids_of, is_skipped, length, ◌≡◌}
use Rattle.heap_graph.proofs.objects.Objects.plan.Given as goal

abbrev pub invariant-loop-number : goal.invariant-loop-number
invariant-loop-number g l = record {
  count : length l.plan.classes.items ≡ l.number;
  each : (records : List Record) → HaveFatesOf l.self (heap_of records) → AreNamesByIdOf l.names records
      → AreClassPlans (is_skipped records l.skip) l.self.view.id_size (heap_of records)
      (ids_of l.self.classes.table.entries) l.plan.classes.items l.plan.places.items;
  objects : AreClassObjects l.self.index (ids_of l.self.classes.table.entries) l.plan.classes.items;
}
