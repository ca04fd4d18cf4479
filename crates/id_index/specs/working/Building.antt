-- Extents while they are built, in the order of the file.
use Rattle.std.specs.Prelude.{List, None, Option, Some, [], length, ◌++◌, ◌∷◌, ◌+◌, ◌<◌, ◌^◌, ◌≡◌, ◌≤◌}
use Rattle.std.specs.Prelude.{◌⊎◌, ℕ}
use Rattle.std.specs.Ordering.{nat_cmp, ordering_then}
use Rattle.std.specs.declared.cmp.Ordering.{Ordering}
use Rattle.std.specs.Option.{option_to_list}
use Rattle.id_index.specs.declared.extents.Extent.{Extent}
use Rattle.id_index.specs.working.Extents.{AreComplete, AreSound, end_of, ids_of_extents, extent_in, extent_of}

-- the extent with the numbers of its objects raised by `by`
abbrev pub raised_by : ℕ → Extent → Extent
raised_by by extent = extent_of extent.page (extent.first + by) extent.granules

-- the objects of each extent come before those of a later extent
abbrev pub AreInTurn : List Extent → Type 0
AreInTurn extents = (i j : ℕ) → i < j → j < length extents → end_of (extent_in extents i) ≤ (extent_in extents j).first

-- the extents hold exactly the objects with the identifiers `ids`
pub record AreBuilt (extents : List Extent) (ids : List ℕ) : Type 0 where
  pub sound : AreSound extents ids
  pub complete : AreComplete extents ids
  pub turn : AreInTurn extents
  pub before : (i : ℕ) → i < length extents → end_of (extent_in extents i) ≤ length ids

-- like `AreBuilt`, for `extents` and then `last`, an extent that the next object may join
pub record AreOpen (extents : List Extent) (last : Extent) (ids : List ℕ) : Type 0 where
  pub sound : AreSound (extents ++ last ∷ []) ids
  pub complete : AreComplete (extents ++ last ∷ []) ids
  pub turn : AreInTurn extents
  pub before : (i : ℕ) → i < length extents → end_of (extent_in extents i) ≤ last.first
  pub end : end_of last ≡ length ids

abbrev pub AreBuiltUpTo : List Extent → Option Extent → List ℕ → Type 0
AreBuiltUpTo extents None ids = AreBuilt extents ids
AreBuiltUpTo extents (Some last) ids = AreOpen extents last ids

-- the extents and the last one, if there is one
abbrev pub with_last : List Extent → Option Extent → List Extent
with_last extents last = extents ++ option_to_list last

-- `extents` and `last`, if there is one, are built of `ids`; they are at most `count` extents, and `count` is below 2 ^
-- 32
pub record AreFewBuilt (extents : List Extent) (last : Option Extent) (ids : List ℕ) (count : ℕ) : Type 0 where
  pub built : AreBuiltUpTo extents last ids
  pub fewer : length (with_last extents last) ≤ count
  pub few : count < 2 ^ 32

-- the identifiers of the first `count` objects, from the extents and the last one
abbrev pub ids_built : List Extent → Option Extent → ℕ → List ℕ
ids_built extents last count = ids_of_extents (with_last extents last) count

-- the objects of one extent come before those of the other
abbrev pub IsApart : Extent → Extent → Type 0
IsApart x y = (end_of x ≤ y.first) ⊎ (end_of y ≤ x.first)

-- any two of the extents are apart
abbrev pub ArePairwiseApart : List Extent → Type 0
ArePairwiseApart extents = (i j : ℕ) → (i ≡ j → ⊥) → i < length extents → j < length extents
    → IsApart (extent_in extents i) (extent_in extents j)

-- the order of extents in Rust: by page, then by the number of the first object, then by the granules
abbrev pub extent_cmp : Extent → Extent → Ordering
extent_cmp x y =
    ordering_then (ordering_then (nat_cmp x.page y.page) (nat_cmp x.first y.first)) (nat_cmp x.granules y.granules)
