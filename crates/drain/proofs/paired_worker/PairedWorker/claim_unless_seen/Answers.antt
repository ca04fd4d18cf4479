-- An object that the worker saw marked is claimed by doing nothing.
use Rattle.drain.proofs.AtHand.{seen_claimed}
use Rattle.drain.proofs.paired_worker.PairedWorker.claim_unless_seen.Goals as goal

pub returns-then-has-clause-claimed : goal.returns-then-has-clause-claimed
returns-then-has-clause-claimed g c =
    let o = c.args.object in
    let w = c.args.self.now in
    seen_claimed o w.pair w.worker (c.requires.seen o (c.has.ensures.0 c.if-has.true))
