-- A graph that was built is whole, and that bounds its rows, bytes and unresolved identifiers.
use Rattle.drain.proofs.Visits.{measured}
use Rattle.drain.proofs.walked_graph.WalkedGraphMeasured.recall_measure.Goals as goal

pub returns : goal.returns
returns g c = measured c.args.self.now.graph.now c.len-objects.ensures.whole
