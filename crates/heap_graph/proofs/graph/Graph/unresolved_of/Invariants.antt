-- What the visit missed and what it will still miss are what the object misses.
use Rattle.heap_graph.proofs.Words.{length, unresolved_left, ◌+◌, ◌≡◌}
use Rattle.heap_graph.specs.Whole.{unresolved_at}
use Rattle.heap_graph.proofs.graph.Graph.unresolved_of.Given as goal

abbrev pub decreases-loop : goal.decreases-loop
decreases-loop g l = length l.visit.left

abbrev pub invariant-loop : goal.invariant-loop
invariant-loop g l = l.visit.unresolved + unresolved_left l.visit.left ≡ unresolved_at l.self l.object
