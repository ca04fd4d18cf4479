-- A scan goes on from where the one before it ended, so what holds of all of them is what holds of the last.
use Rattle.drain.proofs.AtHand.{works_on_again}
use Rattle.drain.proofs.Scanning.{still_on_job}
use Rattle.drain.proofs.paired_worker.PairedWorker.drain.Goals as goal

pub scan_next-requires-clause-on_job : goal.scan_next-requires-clause-on_job
scan_next-requires-clause-on_job g c κs within =
    let so_far = c.loop.invariant in
    still_on_job c.requires.on_job so_far.goes_on.came so_far.at_work so_far.tally

pub loop-preserved : goal.loop-preserved
loop-preserved g c =
    let scanned = c.in_ok-scan_next.ensures.scanned in
    record {
      goes_on = works_on_again c.loop.invariant.goes_on scanned.goes_on;
      at_work = scanned.at_work;
      tally = scanned.tally;
      seen = scanned.seen;
    }
