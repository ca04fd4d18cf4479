-- A sound seat has a story that leads to its book, and is of a pool whose roots and references are of objects.
use Rattle.buffer_pool.proofs.Words.{Owner, length, subst, times, ℕ, ◌≤◌}
use Rattle.buffer_pool.proofs.Few.{few_finished, once_finished}
use Rattle.buffer_pool.proofs.worker.Worker.recall_few_finished.Goals as goal

pub returns-clause-once : goal.returns-clause-once
returns-clause-once g c =
    let seat = c.self.inside.seat in
    let v = seat.me.0 in
    let sound = c.self.invariant.0 in
    subst (λ (w : Owner). (o : ℕ) → times o w.book.account.finished ≤ 1) c.self.view_is
    (once_finished seat.table_id v.log v.book sound.laid sound.story)

pub returns-clause-few : goal.returns-clause-few
returns-clause-few g c =
    let seat = c.self.inside.seat in
    let v = seat.me.0 in
    let sound = c.self.invariant.0 in
    subst (λ (w : Owner). length w.book.account.finished ≤ w.book.setup.objects) c.self.view_is
    (few_finished seat.table_id v.log v.book sound.laid sound.story)
