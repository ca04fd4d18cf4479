-- Identifiers that agree in their lowest bits.
use Rattle.std.specs.Prelude.{List, map, ◌*◌, ◌+◌, ◌^◌, ℕ}

-- the identifier whose bits above the lowest `shift` are `high`, and whose lowest bits are `low`
abbrev pub whole_id : ℕ → ℕ → ℕ → ℕ
whole_id shift low high = high * 2 ^ shift + low

abbrev pub whole_ids : ℕ → ℕ → List ℕ → List ℕ
whole_ids shift low highs = map (whole_id shift low) highs

-- identifiers, and the lowest bits that they have in common
pub record AlignedIds : Type 0 where
  pub ids : List ℕ
  pub shift : ℕ
  pub low : ℕ
