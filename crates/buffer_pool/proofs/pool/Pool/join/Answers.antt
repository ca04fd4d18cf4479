-- Each of the two has finished few objects, so both counts can be added.
use Rattle.std.proofs.Common.{arith}
use Rattle.buffer_pool.proofs.Few.{small_count}
use Rattle.buffer_pool.proofs.pool.Pool.join.Goals as goal

pub overflow_add-result : goal.overflow_add-result
overflow_add-result g c =
    let w = c.worker.inside in
    let v = w.seat.me.0 in
    let sound = c.worker.invariant.0 in
    let other = c.other.inside in
    let there = other.seat.me.0 in
    let other_sound = c.other.invariant.0 in
    omega (
      arith,
      small_count w.seat.table_id v.log v.book sound.laid sound.story w.finished c.worker.invariant.1,
      small_count other.seat.table_id there.log there.book other_sound.laid other_sound.story other.finished
          c.other.invariant.1,
    )
