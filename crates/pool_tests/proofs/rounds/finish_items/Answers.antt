-- The object taken from the buffer is finished.
use Rattle.pool_tests.proofs.RoundSteps.{may_finish, same_again, same_finished, same_roots, taken}
use Rattle.pool_tests.proofs.rounds.finish_items.Goals as goal

pub finish-requires-clause-can : goal.finish-requires-clause-can
finish-requires-clause-can g c =
    let was = c.loop-object.invariant in
    may_finish 4000 c.loop-object.worker c.loop-object.held c.take.new.self c.in-Some.object
    (same_roots 4000 c.args.worker.now c.loop-object.worker was.0 c.requires.roots) was.1 c.in-Some.ensures.0

pub loop-object-preserved : goal.loop-object-preserved
loop-object-preserved g c =
    let was = c.loop-object.invariant in
    let old = c.loop-object.worker in
    let new = c.finish.new.worker in
    let same = same_finished old new c.finish.ensures.pool c.in-Some.object c.finish.ensures.event in (
      same_again c.args.worker.now old new was.0 same,
      taken old new c.finish.ensures.pool c.loop-object.held c.take.new.self c.in-Some.object was.1
          c.in-Some.ensures.0 c.in-Some.ensures.1 c.finish.ensures.event,
    )
