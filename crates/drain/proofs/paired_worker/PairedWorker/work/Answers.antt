-- The worker that worked off comes from the one that was passed, and leaving finishes nothing more.
use Rattle.drain.proofs.AtHand.{came_again}
use Rattle.drain.proofs.Outcomes.{on_if_ok}
use Rattle.drain.proofs.paired_worker.PairedWorker.work.Goals as goal

pub returns : goal.returns
returns g c =
    let worked = c.in_ok-work_off.ensures in
    let left = c.leave.ensures in
    record {
      through = on_if_ok c.leave.result left.through (λ t through. (came_again worked.came through.0, through.1));
      tally = on_if_ok c.leave.result left.tally (λ t tallied. tallied _ worked.tally);
      worked = on_if_ok c.leave.result left.shelved (λ t shelved. (c.work_off.new.self, worked.worked, shelved));
      of_pool = left.of_pool;
    }
