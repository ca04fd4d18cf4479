-- The drained worker comes from the one that was passed, and leaving finishes nothing more.
use Rattle.drain.proofs.AtHand.{came_again}
use Rattle.drain.proofs.Outcomes.{on_if_ok}
use Rattle.drain.proofs.paired_worker.PairedWorker.end.Goals as goal

pub returns : goal.returns
returns g c =
    let drained = c.in_ok-drain.ensures in
    let left = c.leave.ensures in
    record {
      through =
          on_if_ok c.leave.result left.through (λ t through. (came_again drained.goes_on.came through.0, through.1));
      tally = on_if_ok c.leave.result left.tally (λ t tallied. tallied _ drained.tally);
      of_pool = left.of_pool;
    }
