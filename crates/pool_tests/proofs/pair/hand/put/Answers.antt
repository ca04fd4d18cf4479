-- A worker still backs its pair after the pair took an object.
use Rattle.std.proofs.Common.{[], ◌∷◌}
use Rattle.pool_tests.proofs.Readiness.{ready_after}
use Rattle.pool_tests.proofs.pair.hand.put.Goals as goal

pub returns : goal.returns
returns g c =
    ready_after 400 c.args.pool.now c.claim.new.worker c.put.new.worker c.args.pair.now c.put.new.self
    (c.args.object ∷ []) [] c.claim.ensures.worker c.in-Ok.ensures.pool c.in-Ok.ensures.going c.in-Ok.ensures.put.0
