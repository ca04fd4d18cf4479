-- A visit yields the references of its object, and what it reads of the object is complete at their end.
use Rattle.drain.proofs.Words.{None}
use Rattle.drain.proofs.Visits.{are_given, behind_none}
use Rattle.drain.proofs.paired_worker.PairedWorker.scan_any.Goals as goal

pub scan-requires-clause-given : goal.scan-requires-clause-given
scan-requires-clause-given g c κs within =
    let v = c.visit-visit.result in
    are_given _ _ _ _ v None v c.visit-visit.ensures (behind_none v)
