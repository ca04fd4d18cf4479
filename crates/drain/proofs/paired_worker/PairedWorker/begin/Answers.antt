-- A publish goes on from the claims, so what was seen stays seen.
use Rattle.drain.proofs.Words.{Contains, Setup, subst}
use Rattle.drain.proofs.AtHand.{goes_on_again}
use Rattle.drain.proofs.Outcomes.{on_ok}
use Rattle.drain.proofs.paired_worker.PairedWorker.begin.Goals as goal

pub returns-clause-goes_on : goal.returns-clause-goes_on
returns-clause-goes_on g c =
    on_ok c.publish.result c.publish.ensures.goes_on (goes_on_again c.in_ok-claim_roots.ensures.goes_on)

pub returns-clause-saw : goal.returns-clause-saw
returns-clause-saw g c =
    on_ok c.publish.result c.publish.ensures.goes_on (λ on. λ o root.
    let there = subst (λ (e : Setup). Contains e.roots o) on.came.setup root in
    on.came.seen o (c.in_ok-claim_roots.ensures.saw o there))
