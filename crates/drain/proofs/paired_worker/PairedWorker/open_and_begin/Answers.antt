-- The leader that has claimed the roots goes on from the leader with the opened pair.
use Rattle.drain.proofs.Words.{Setup, ap, sym, ◌∙◌}
use Rattle.drain.proofs.AtHand.{goes_on_again}
use Rattle.drain.proofs.paired_worker.PairedWorker.open_and_begin.Goals as goal

pub begin-requires-clause-roots : goal.begin-requires-clause-roots
begin-requires-clause-roots g c =
    c.requires.roots ∙ sym (ap (λ (e : Setup). e.roots) c.in_ok-paired.ensures.opened.0.came.setup)

pub returns-clause-goes_on : goal.returns-clause-goes_on
returns-clause-goes_on g c =
    goes_on_again c.in_ok-paired.ensures.opened.0 c.in_ok-begin.ensures.goes_on
