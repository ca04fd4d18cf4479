-- The bytes that were added and those of the remaining fields are the bytes of all. A value has at most 255.
use Rattle.heap_graph.proofs.Words.{length, size_together, ◌*◌, ◌+◌, ◌≡◌, ◌≤◌}
use Rattle.heap_graph.proofs.classes.adding.bytes_of_fields.Given as goal

abbrev pub invariant-loop-member : goal.invariant-loop-member
invariant-loop-member l = record {
  sum : l.bytes + size_together l.view.id_size l.member-iterator ≡ size_together l.view.id_size l.fn.members;
  small : l.bytes + 255 * length l.member-iterator ≤ 255 * length l.fn.members;
}
