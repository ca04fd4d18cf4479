-- Closing the pair finishes nothing, so the tally is still that of what the worker finished.
use Rattle.drain.proofs.Scanning.{same_tally}
use Rattle.drain.proofs.paired_worker.PairedWorker.leave.Goals as goal

pub returns-clause-tally : goal.returns-clause-tally
returns-clause-tally g c m tallied = same_tally c.in_ok-worker.ensures.finished tallied
