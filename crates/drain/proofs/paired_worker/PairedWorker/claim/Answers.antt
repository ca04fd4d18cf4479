-- The object may be claimed, and is at hand exactly if its mark was found white.
use Rattle.drain.proofs.AtHand.{can_claim, is_claimed}
use Rattle.drain.proofs.paired_worker.PairedWorker.claim.Goals as goal

pub claim-requires-clause-can : goal.claim-requires-clause-can
claim-requires-clause-can g c =
    can_claim c.args.object c.requires.may.1.hand c.requires.may.2

pub returns-clause-claimed : goal.returns-clause-claimed
returns-clause-claimed g c =
    let told = c.claim.ensures in
    is_claimed c.args.self.now.worker c.claim.new.worker told.pool c.args.object told.event.0 told.event.1
    c.args.self.now.pair c.claim.result told.event.2
