-- No value has more than 255 bytes, and there are few values, so the sum does not overflow.
use Rattle.std.proofs.Common.{ap, arith, length}
use Rattle.heap_graph.proofs.objects.bytes.bytes_together.Goals as goal

pub overflow_add-bytes : goal.overflow_add-bytes
overflow_add-bytes c = omega (arith, ap length c.in-Some.ensures.steps)
