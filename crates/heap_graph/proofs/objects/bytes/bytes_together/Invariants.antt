-- The bytes so far and those of the remaining values are all. No value has more than 255.
use Rattle.heap_graph.proofs.Words.{length, size_of, sum_by, ◌*◌, ◌+◌, ◌≡◌, ◌≤◌}
use Rattle.heap_graph.proofs.objects.bytes.bytes_together.Given as goal

abbrev pub invariant-loop-value : goal.invariant-loop-value
invariant-loop-value l = record {
  sum : l.bytes + sum_by (λ v. size_of l.view.id_size v.type) l.value-iterator
      ≡ sum_by (λ v. size_of l.view.id_size v.type) l.fn.values;
  small : l.bytes + 255 * length l.value-iterator ≤ 255 * length l.fn.values;
}
