-- What is at hand may be put.
use Rattle.drain.proofs.Words.{[], ◌∷◌}
use Rattle.drain.proofs.AtHand.{backs, is_put}
use Rattle.drain.proofs.paired_worker.PairedWorker.put.Goals as goal

pub put-requires-clause-backed : goal.put-requires-clause-backed
put-requires-clause-backed g c =
    let hand = c.requires.at_hand in
    backs (c.args.object ∷ []) hand.0 hand.1.hand

pub put-requires-clause-busy : goal.put-requires-clause-busy
put-requires-clause-busy g c = c.requires.at_hand.1.busy

pub returns-in-Ok-clause-put : goal.returns-in-Ok-clause-put
returns-in-Ok-clause-put g c =
    let puts = c.in-Ok.ensures in
    is_put c.args.self.now.worker c.put.new.worker puts.pool puts.put.0 puts.going
