-- After the last object nothing more can be missed. There are few identifiers, so few are missed.
use Rattle.std.proofs.Common.{arith}
use Rattle.heap_graph.proofs.graph.Graph.unresolved_of.Goals as goal

pub returns-clause-within : goal.returns-clause-within
returns-clause-within g c =
    let few = c.len-objects.ensures.whole.few_unresolved c.args.object in
    omega (arith, few, c.unresolved.ensures)
