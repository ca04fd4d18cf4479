-- What the snapshot state after some records means.
use Rattle.std.specs.Prelude.{Bool, List, None, Option, Some, [], false, replicate, suc, true, ℕ, ◌++◌, ◌∷◌, ◌≡◌}
use Rattle.hprof_grammar.specs.Snapshot.{CanGoOn, snapshot_tags}
use Rattle.hprof_grammar.specs.declared.snapshot_order.SnapshotState.{SnapshotState}
use Rattle.hprof_grammar.specs.declared.snapshot_order.SnapshotState.TheVariants.{Before, Ended, Segments, Whole}

-- records with `tags` lead to the state
abbrev pub IsAt : SnapshotState → List ℕ → Type 0
IsAt Before tags = snapshot_tags tags ≡ []
IsAt Whole tags = snapshot_tags tags ≡ 0x0C ∷ []
IsAt Segments tags = (n : ℕ) × (snapshot_tags tags ≡ replicate (suc n) 0x1C)
IsAt Ended tags = (n : ℕ) × (snapshot_tags tags ≡ replicate (suc n) 0x1C ++ 0x2C ∷ [])

abbrev pub is_done : SnapshotState → Bool
is_done Before = false
is_done Whole = true
is_done Segments = false
is_done Ended = true

abbrev pub StepsTo : SnapshotState → ℕ → Option SnapshotState → Type 0
StepsTo order tag (Some next) = (tags : List ℕ) → IsAt order tags → IsAt next (tags ++ tag ∷ [])
StepsTo order tag None = (tags : List ℕ) → IsAt order tags → CanGoOn (tags ++ tag ∷ []) → ⊥
