-- Each object is a root.
use Rattle.pool_tests.proofs.RoundSteps.{may_claim, same_claimed}
use Rattle.pool_tests.proofs.mark_bits.claim_root.Goals as goal

pub claim_white-requires-clause-can : goal.claim_white-requires-clause-can
claim_white-requires-clause-can g c =
    may_claim 33 c.args.worker.now c.args.object c.requires.roots c.requires.object

pub returns-clause-same : goal.returns-clause-same
returns-clause-same g c =
    same_claimed c.args.worker.now c.claim_white.new.worker c.claim_white.ensures.pool c.args.object 0
    c.claim_white.ensures.book
