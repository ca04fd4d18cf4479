-- What the visit missed and what it will still miss are what the object misses.
use Rattle.std.proofs.Common.{◌+◌, ◌≡◌, length}
use Rattle.heap_graph.specs.ObjectGraph.{bytes_at}
use Rattle.heap_graph.specs.Walks.{unresolved_left}
use Rattle.heap_graph.specs.Whole.{unresolved_at}
use Rattle.histogram.proofs.unmarked.Unmarked.of.Given as goal

abbrev pub decreases-loop : goal.decreases-loop
decreases-loop g l = length l.visit.left

abbrev pub invariant-loop : goal.invariant-loop
invariant-loop g l = record {
  bytes : l.visit.bytes ≡ bytes_at l.graph l.object;
  unresolved : l.visit.unresolved + unresolved_left l.visit.left ≡ unresolved_at l.graph l.object;
}
