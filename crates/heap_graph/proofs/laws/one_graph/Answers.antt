-- A text spells one list of records, and the records decide each part of a graph.
use Rattle.heap_graph.specs.working.OneGraph.{one_graph}
use Rattle.heap_graph.proofs.laws.one_graph.Goals as goal

pub returns : goal.returns
returns c = one_graph
