-- The values so far hold no identifier, so the remaining values hold the same identifiers as all.
use Rattle.std.proofs.Common.{◌≡◌}
use Rattle.heap_graph.specs.working.Values.{AreClassValues, values_ids}
use Rattle.heap_graph.proofs.object_ids.class_ids.next_id.Given as goal

abbrev pub invariant-loop-value : goal.invariant-loop-value
invariant-loop-value l = record {
  same : values_ids l.fn.values ≡ values_ids l.values;
  are : AreClassValues l.values;
}
