-- The rule of one snapshot: the records that make it, and their order.
use Rattle.std.specs.Prelude.{Bool, List, [], filter, replicate, suc, ℕ, ◌++◌, ◌==◌, ◌||◌, ◌∷◌, ◌≡◌, ◌⊎◌}

-- the tags of the records that make a snapshot: the two of heap records, and HEAP DUMP END
abbrev pub is_snapshot_tag : ℕ → Bool
is_snapshot_tag tag = (tag == 0x0C) || (tag == 0x1C) || (tag == 0x2C)

-- The tags of a snapshot's records: one heap dump, or one or more segments and then one end.
abbrev pub IsSnapshot : List ℕ → Type 0
IsSnapshot tags = (tags ≡ 0x0C ∷ []) ⊎ ((n : ℕ) × (tags ≡ replicate (suc n) 0x1C ++ 0x2C ∷ []))

-- Those of `tags` that make a snapshot, in order. The snapshot rule does not limit other tags.
abbrev pub snapshot_tags : List ℕ → List ℕ
snapshot_tags tags = filter is_snapshot_tag tags

-- Records with `tags` keep the snapshot rule.
abbrev pub IsOrderly : List ℕ → Type 0
IsOrderly tags = IsSnapshot (snapshot_tags tags)

-- records with `tags` keep the snapshot rule if the right records are appended to them
abbrev pub CanGoOn : List ℕ → Type 0
CanGoOn tags = (more : List ℕ) × IsOrderly (tags ++ more)
