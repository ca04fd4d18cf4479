-- The load of the full head comes first, and what `give` does is stated from the book after that load.
use Rattle.drain.proofs.Giving.{gives_some, needs_none}
use Rattle.drain.proofs.Outcomes.{on_ok}
use Rattle.drain.proofs.paired_worker.PairedWorker.offer.Goals as goal

pub returns-then-not-others_want-clause-offers : goal.returns-then-not-others_want-clause-offers
returns-then-not-others_want-clause-offers g c =
    let look = c.others_want.ensures in
    needs_none c.if-not-others_want.true look.pair look.sees

pub returns-clause-offers : goal.returns-clause-offers
returns-clause-offers g c =
    let look = c.others_want.ensures in
    on_ok c.give.result c.give.ensures.gives (gives_some c.if-not-others_want.false look.pair look.sees)
