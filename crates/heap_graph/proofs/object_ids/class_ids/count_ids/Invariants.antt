-- The count and the identifiers among the remaining values are all. No value counts for more than one.
use Rattle.heap_graph.proofs.Words.{length, values_ids, ◌+◌, ◌≡◌, ◌≤◌}
use Rattle.heap_graph.proofs.object_ids.class_ids.count_ids.Given as goal

abbrev pub invariant-loop-value : goal.invariant-loop-value
invariant-loop-value l = record {
  counted : l.ids + length (values_ids l.value-iterator) ≡ length (values_ids l.fn.values);
  few : l.ids + length l.value-iterator ≤ length l.fn.values;
}
