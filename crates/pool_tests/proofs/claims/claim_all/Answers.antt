-- Each object is a root, and the worker is not idle.
use Rattle.std.proofs.Common.{◌∙◌, inr}
use Rattle.pool_tests.proofs.RoundSteps.{may_claim, same_roots, same_worker}
use Rattle.pool_tests.proofs.claims.claim_all.Goals as goal

pub loop-object-init : goal.loop-object-init
loop-object-init g c = same_worker c.args.worker

pub claim-requires-clause-can : goal.claim-requires-clause-can
claim-requires-clause-can g c =
    let roots =
    same_roots c.args.objects c.args.worker c.loop-object.worker c.loop-object.invariant c.requires.roots in
    may_claim c.args.objects c.loop-object.worker c.loop-object.object roots c.loop-object-test.true

pub claim-requires-clause-busy : goal.claim-requires-clause-busy
claim-requires-clause-busy g c = inr (c.loop-object.invariant.idle ∙ c.requires.none.awake)
