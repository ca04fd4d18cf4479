-- No smaller shift serves.
use Rattle.id_index.proofs.Words.{ℕ, ◌/◌, ◌<◌, ◌^◌, ◌≤◌}
use Rattle.id_index.proofs.beginnings.shift_for.Given as goal

abbrev pub invariant-loop-shift : goal.invariant-loop-shift
invariant-loop-shift l = (s : ℕ) → s < l.shift → l.buckets ≤ l.span / 2 ^ s
