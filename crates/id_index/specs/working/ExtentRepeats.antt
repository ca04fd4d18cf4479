-- Repeats of identifiers among ascending extents.
use Rattle.std.specs.Prelude.{List, ◌-◌, ◌<◌, ◌≡◌, ◌≤◌, ◌⊎◌, ℕ}
use Rattle.std.specs.Int.{bit_at}
use Rattle.id_index.specs.declared.extents.Extent.{Extent}
use Rattle.id_index.specs.working.Extents.{number_in, page_in, extent_in}

-- the extents at indexes `first` and `second` are of one page, and both have an object at `granule`
pub record IsRepeatAt (extents : List Extent) (first second granule : ℕ) : Type 0 where
  pub order : first < second
  pub page : page_in extents first ≡ page_in extents second
  pub earlier : bit_at (extent_in extents first).granules granule ≡ 1
  pub later : bit_at (extent_in extents second).granules granule ≡ 1

-- `number` is the least number of an object that repeats an earlier one, among the extents before index `end`, or
-- `count` if there is none
pub record IsLeastRepeat (extents : List Extent) (end count number : ℕ) : Type 0 where
  pub least : (first second granule : ℕ) → IsRepeatAt extents first second granule → second < end
      → number ≤ number_in (extent_in extents second) granule
  pub found : (number ≡ count) ⊎ ((first : ℕ) × (second : ℕ) × (granule : ℕ) × IsRepeatAt extents first second granule
      × (second < end) × (granule < 64) × (number ≡ number_in (extent_in extents second) granule))

-- `new` is the least of `old` and the numbers of the extent's objects at the granules `before`
pub record IsLowered (extent : Extent) (before old new : ℕ) : Type 0 where
  pub low : new ≤ old
  pub each : (p : ℕ) → bit_at extent.granules p ≡ 1 → bit_at before p ≡ 1 → new ≤ number_in extent p
  pub found : (new ≡ old) ⊎ ((p : ℕ) × (p < 64) × (bit_at extent.granules p ≡ 1) × (bit_at before p ≡ 1)
      × (new ≡ number_in extent p))

-- `seen` has the granules of `page` at which the extents before index `at` have objects; `page` is that of the last of
-- these extents
pub record AreSeen (extents : List Extent) (at page seen : ℕ) : Type 0 where
  pub last : 0 < at → page ≡ page_in extents (at - 1)
  pub all : (i p : ℕ) → i < at → page_in extents i ≡ page → bit_at (extent_in extents i).granules p ≡ 1
      → bit_at seen p ≡ 1
  pub only : (p : ℕ) → bit_at seen p ≡ 1 → (i : ℕ) × (i < at) × (page_in extents i ≡ page)
      × (bit_at (extent_in extents i).granules p ≡ 1)
