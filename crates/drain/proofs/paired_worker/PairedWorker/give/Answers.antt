-- After the spilled objects were put again, the worker has the same at hand, and the balance goes on from there.
use Rattle.drain.proofs.AtHand.{goes_on_after, goes_on_again}
use Rattle.drain.proofs.Outcomes.{on_ok}
use Rattle.drain.proofs.paired_worker.PairedWorker.give.Goals as goal

pub returns-clause-goes_on : goal.returns-clause-goes_on
returns-clause-goes_on g c =
    on_ok c.balance.result c.balance.ensures.balances (λ told. goes_on_again c.in_ok-unspill.ensures.goes_on
    (goes_on_after c.unspill.new.self.worker c.balance.new.worker told.0 c.balance.ensures.pool))

pub returns-clause-gives : goal.returns-clause-gives
returns-clause-gives g c =
    let mid = c.unspill.new.self in
    on_ok c.balance.result c.balance.ensures.balances
    (λ told. (mid.pair, mid.worker.book, c.in_ok-unspill.ensures.unspills, told))
