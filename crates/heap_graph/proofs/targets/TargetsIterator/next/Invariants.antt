-- The visit is on its way: the identifiers so far named nothing, and the missed ones among them are counted.
use Rattle.std.proofs.Common.{length}
use Rattle.heap_graph.proofs.Visiting.{IsOnTheWay}
use Rattle.heap_graph.proofs.targets.TargetsIterator.next.Given as goal

abbrev pub invariant-loop-id : goal.invariant-loop-id
invariant-loop-id g l =
    let v = l.self-inside in
    IsOnTheWay l.fn.self v.row v.bytes v.unresolved v.index.now (g.I.IdSource.ids v.ids)

abbrev pub decreases-loop-id : goal.decreases-loop-id
decreases-loop-id g l = length (g.I.IdSource.ids l.self-inside.ids)
