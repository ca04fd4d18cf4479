-- The rows so far have the sums of both tallies, the other rows those that they had.
use Rattle.drain.proofs.Words.{length, no_object, slice_index_or, together, ℕ, ◌<◌, ◌≡◌, ◌≤◌}
use Rattle.drain.proofs.tally.Tally.join.Given as goal

abbrev pub invariant-loop-row : goal.invariant-loop-row
invariant-loop-row g l =
    let was = l.initial.self.rows.items in
    let now = l.self.rows.items in
    (length now ≡ length was) × (l.self.unresolved ≡ l.initial.self.unresolved)
    × ((n : ℕ) → n < l.row
    → slice_index_or now n no_object
    ≡ together (slice_index_or was n no_object) (slice_index_or l.other.rows.items n no_object))
    × ((n : ℕ) → l.row ≤ n → slice_index_or now n no_object ≡ slice_index_or was n no_object)
