-- The references of a graph are between its objects, and `len` returns their number.
use Rattle.drain.proofs.Pairs.{pairs_within}
use Rattle.drain.proofs.walked_graph.WalkedGraphEdges.objects.Goals as goal

pub returns-clause-pairs : goal.returns-clause-pairs
returns-clause-pairs g c = rw c.len.ensures.value (pairs_within c.args.self.now.graph.now c.len.ensures.whole)
