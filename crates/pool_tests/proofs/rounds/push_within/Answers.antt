-- A lost try returns the buffer.
use Rattle.std.proofs.Common.{◌∙◌, refl, ap}
use Rattle.buffer_pool.specs.Calls.{HeldBuffer}
use Rattle.pool_tests.proofs.RoundSteps.{done, lost_push, may_push, same_again, same_worker}
use Rattle.pool_tests.proofs.rounds.push_within.Goals as goal

pub loop-init : goal.loop-init
loop-init g c = (same_worker c.args.worker.now, c.requires.one, refl)

pub loop-preserved : goal.loop-preserved
loop-preserved g c =
    let was = c.loop.invariant in
    let t = lost_push c.loop.worker c.try_push.new.worker c.try_push.ensures.pool c.args.which c.loop.held
    c.in-Lost.back was.1 c.in-Lost.ensures.pushes in
    (same_again c.args.worker.now c.loop.worker c.try_push.new.worker was.0 t.0, t.1, t.2 ∙ was.2)

pub try_push-requires : goal.try_push-requires
try_push-requires g c =
    let was = c.loop.invariant in
    record {
      pool = was.0.pool ∙ c.requires.pool;
      may = may_push c.args.which c.loop.worker c.loop.held was.1
          (λ empty. ap (λ (h : HeldBuffer). h.items) was.2 ∙ c.requires.bare empty);
    }

pub returns-in-Done : goal.returns-in-Done
returns-in-Done g c =
    let was = c.loop.invariant in
    let t = done c.loop.worker c.try_push.new.worker c.try_push.ensures.pool c.args.which c.loop.held was.1
    c.in-Done.ensures.pushes in
    record { same = same_again c.args.worker.now c.loop.worker c.try_push.new.worker was.0 t.0; none = t.1 }
