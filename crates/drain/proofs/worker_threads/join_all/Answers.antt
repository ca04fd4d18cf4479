-- The joined thread kept its duty, so its worker is back; the other threads are as before.
use Rattle.std.proofs.lemmas.Result.{err_from_is_err_and}
use Rattle.drain.proofs.Words.{AreBackUnder, IsDutyUnder, arith, get_or, into_iter_items, into_iter_len, refl, subst}
use Rattle.drain.proofs.Words.{sym}
use Rattle.drain.proofs.Duties.{Back, came_back}
use Rattle.drain.proofs.Each.{first_holds, more_hold, others_hold}
use Rattle.drain.proofs.Tokens.{of_same_pool, of_stop}
use Rattle.drain.proofs.worker_threads.join_all.Goals as goal

pub loop-thread-init : goal.loop-thread-init
loop-thread-init g c =
    let given = c.into_iter-thread-iterator.ensures.into_iter_gives in (
      omega (arith, c.requires.room.0, given.1),
      omega (arith, c.requires.room.1),
      λ graph leader owed. (
        λ k d below. subst (λ xs. IsDutyUnder graph leader (get_or xs k d).promise) (sym given.0)
            (owed k d (omega (arith, below, given.1))),
        λ k d below. absurd (omega (arith, below, c.requires.room.0)),
      ),
    )

pub loop-thread-preserved : goal.loop-thread-preserved
loop-thread-preserved g c =
    let was = c.loop-thread.invariant in
    let step = c.in-Some.ensures.steps in
    let now = c.loop-thread.thread-iterator in
    let thread = c.in-Some.thread in
    let pushed = c.push_reserved in
    let joined = c.in_ok-join.field-0 in
    let kept = c.in_ok-join.ensures in (
      omega (arith, pushed.ensures.len, was.0, step.1),
      omega (arith, pushed.ensures.capacity, was.1),
      λ graph leader owed.
          let here = was.2 graph leader owed in
          let duty =
          first_holds (λ t. IsDutyUnder graph leader t.promise) (into_iter_len now) (into_iter_items now)
          (into_iter_items c.next.new.self) thread step.0 here.0 (omega (arith, step.1)) in
          let m = g.V.Measured.measure graph in
          let back = came_back g.V.Measured.measure joined.tally duty kept.0.0 kept.0.1 in (
            others_hold (λ t. IsDutyUnder graph leader t.promise) (into_iter_len now) (into_iter_items now)
                (into_iter_items c.next.new.self) thread step.0 here.0 (into_iter_len c.next.new.self) step.1,
            subst (AreBackUnder m leader) (sym pushed.ensures.items)
                (more_hold (Back m leader) c.loop-thread.back.items joined here.1 back),
          ),
    )

-- all were joined
pub returns-clause-back : goal.returns-clause-back
returns-clause-back g c graph leader owed = (c.loop-thread.invariant.2 graph leader owed).1

-- the stopped thread has a duty to each leader to which all have one, so its worker is of the leader's pool
pub returns-in_err-join-clause-of_pool : goal.returns-in_err-join-clause-of_pool
returns-in_err-join-clause-of_pool g c =
    let step = c.in-Some.ensures.steps in
    let now = c.loop-thread.thread-iterator in
    let exit = err_from_is_err_and c.from_residual.result c.from_residual.ensures.1 in
    rw (exit.1, exit.2)
    (λ graph leader owed.
    let here = c.loop-thread.invariant.2 graph leader owed in
    let duty =
    first_holds (λ t. IsDutyUnder graph leader t.promise) (into_iter_len now) (into_iter_items now)
    (into_iter_items c.next.new.self) c.in-Some.thread step.0 here.0 (omega (arith, step.1)) in
    let stop = c.in_err-join.field-0.0 in
    of_stop leader.pool stop _ refl (of_same_pool stop duty.pool c.in_err-join.ensures.1))
