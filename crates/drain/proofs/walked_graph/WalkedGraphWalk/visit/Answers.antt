-- The visit yields the references of the object, and what is read of it.
use Rattle.drain.proofs.Visits.{is_visit}
use Rattle.drain.proofs.walked_graph.WalkedGraphWalk.visit.Goals as goal

pub returns : goal.returns
returns g c =
    let told = c.visit.ensures in
    is_visit c.args.self.now.graph.now c.args.object c.visit.result told.value told.row told.bytes told.unresolved
    told.within
