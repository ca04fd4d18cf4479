-- Two lists of marks have one length and agree at each object, since an object is reachable or not.
use Rattle.drain.proofs.Words.{IsReferenceOf, IsRootOf, object_count}
use Rattle.drain.proofs.OneMarking.{marks_determined}
use Rattle.drain.proofs.laws.one_marking.Goals as goal

pub returns : goal.returns
returns c graph = marks_determined (object_count graph) (IsRootOf graph) (IsReferenceOf graph)
