-- The worker's account is its seat's. It has finished few objects, so one more can be counted.
use Rattle.buffer_pool.proofs.Words.{CanFinish, Owner, arith, subst, sym}
use Rattle.buffer_pool.proofs.Few.{small_count}
use Rattle.buffer_pool.proofs.pool.Pool.finish.Goals as goal

pub raise_to_finished-requires-clause-can : goal.raise_to_finished-requires-clause-can
raise_to_finished-requires-clause-can g c =
    subst (λ (w : Owner). CanFinish w.book.setup c.args.object w.book.account) (sym c.worker.view_is) c.requires.can

pub overflow_add-worker : goal.overflow_add-worker
overflow_add-worker g c =
    let w = c.worker.inside in
    let v = w.seat.me.0 in
    let sound = c.worker.invariant.0 in
    omega (
      arith,
      small_count w.seat.table_id v.log v.book sound.laid sound.story w.finished c.worker.invariant.1,
    )
