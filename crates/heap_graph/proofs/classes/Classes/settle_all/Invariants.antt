-- The path is empty, what the list says of fates holds, and each class so far is known.
use Rattle.heap_graph.proofs.Words.{AreClassesOf, AreFatesOf, IsKnown, List, SubRecord, [], ℕ, ◌<◌, ◌≡◌}
use Rattle.heap_graph.proofs.classes.Classes.settle_all.Given as goal

abbrev pub invariant-loop-number : goal.invariant-loop-number
invariant-loop-number g l = record {
  path : l.path.items ≡ [];
  fates : (heap : List SubRecord) → AreClassesOf l.self heap → AreFatesOf l.self heap [] l.known.items;
  each : (k : ℕ) → k < l.number → IsKnown l.known.items k;
}
