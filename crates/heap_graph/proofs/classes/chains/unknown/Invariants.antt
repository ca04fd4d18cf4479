-- There are at most `count` fates, and all are unknown.
use Rattle.heap_graph.proofs.Words.{Fate, Some, length, slice_get, ℕ, ◌-◌, ◌≡◌, ◌≤◌}
use Rattle.heap_graph.specs.declared.classes.fate.Fate.TheVariants as fates
use Rattle.heap_graph.proofs.classes.chains.unknown.Given as goal

abbrev pub invariant-loop-known : goal.invariant-loop-known
invariant-loop-known g l = record {
  count : length l.known.items ≤ l.fn.count;
  each : (k : ℕ) (f : Fate) → slice_get l.known.items k ≡ Some f → f ≡ fates.Unknown;
}

abbrev pub decreases-loop-known : goal.decreases-loop-known
decreases-loop-known g l = l.fn.count - length l.known.items
