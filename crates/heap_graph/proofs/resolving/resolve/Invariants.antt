-- The identifiers so far are resolved, and the missing ones are no more than those so far.
use Rattle.heap_graph.proofs.Words.{Resolves, take, ◌≤◌}
use Rattle.heap_graph.proofs.resolving.resolve.Given as goal

abbrev pub invariant-loop-id : goal.invariant-loop-id
invariant-loop-id g l = record {
  resolved : Resolves l.index (take l.id-index l.ids) l.initial.targets.items l.targets.items l.unresolved;
  few : l.unresolved ≤ l.id-index;
}
