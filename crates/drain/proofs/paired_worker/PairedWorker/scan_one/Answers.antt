-- The class and what follows it are the references of the object, whatever kind of object it is.
use Rattle.drain.proofs.Visits.{are_given}
use Rattle.drain.proofs.paired_worker.PairedWorker.scan_one.Goals as goal

pub scan-requires-clause-given : goal.scan-requires-clause-given
scan-requires-clause-given g c κs within =
    are_given _ _ _ _ c.visit.result c.in-Nothing.class c.in-Nothing.rest c.visit.ensures c.in-Nothing.ensures

pub scan-requires-in-Fields-clause-given : goal.scan-requires-in-Fields-clause-given
scan-requires-in-Fields-clause-given g c κs within =
    are_given _ _ _ _ c.visit.result c.in-Fields.class c.in-Fields.rest c.visit.ensures c.in-Fields.ensures

pub scan-requires-in-Elements-clause-given : goal.scan-requires-in-Elements-clause-given
scan-requires-in-Elements-clause-given g c κs within =
    are_given _ _ _ _ c.visit.result c.in-Elements.class c.in-Elements.rest c.visit.ensures c.in-Elements.ensures
