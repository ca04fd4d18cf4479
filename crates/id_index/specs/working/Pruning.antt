-- Pruned extents: first the kept extents, in ascending order, then the extents that add nothing to the kept ones.
use Rattle.std.specs.Prelude.{IsPermutation, IsSorted, List, bit_and, count_ones, length, take, ◌+◌, ◌-◌, ◌<◌, ◌^◌}
use Rattle.std.specs.Prelude.{◌%◌, ◌≡◌, ◌≤◌, ◌⊎◌, ℕ}
use Rattle.std.specs.List.{swap}
use Rattle.id_index.specs.declared.extents.Extent.{Extent}
use Rattle.id_index.specs.working.Building.{ArePairwiseApart, extent_cmp}
use Rattle.id_index.specs.working.Extents.{AreAscending, AreFewAPage, HasBearer, end_of, number_in, page_in, extent_in}

-- ascending extents, any two of which are apart
pub record AreSorted (extents : List Extent) : Type 0 where
  pub sorted : IsSorted extent_cmp extents
  pub apart : ArePairwiseApart extents
  pub few : (k : ℕ) → k < length extents → end_of (extent_in extents k) < 2 ^ 32

-- the extent at index `at` was swapped to index `kept`, after the kept ones, or all its granules were seen and nothing
-- moved
abbrev pub IsKeptIfNew : List Extent → List Extent → ℕ → ℕ → ℕ → ℕ → ℕ → Type 0
IsKeptIfNew extents extents' kept at granules seen kept' =
    ((bit_and granules seen ≡ granules → ⊥) × ((extents' ≡ swap extents kept at) × (kept' ≡ kept + 1)))
    ⊎ ((bit_and granules seen ≡ granules) × ((extents' ≡ extents) × (kept' ≡ kept)))

-- `kept` are some of the extents before index `at`, and each identifier of those before `at` is in one of them, with a
-- number that is no greater
pub record AreKept (extents : List Extent) (at : ℕ) (kept : List Extent) : Type 0 where
  pub ascending : AreAscending kept
  pub from : (k : ℕ) → k < length kept → (i : ℕ) × (i < at) × (extent_in extents i ≡ extent_in kept k)
  pub covered : (i id : ℕ) → i < at → HasBearer (extent_in extents i) id → (k : ℕ) × (k < length kept)
      × HasBearer (extent_in kept k) id
      × (number_in (extent_in kept k) (id % 64) ≤ number_in (extent_in extents i) (id % 64))

-- the extents before index `at` are pruned, the first `kept` of them are kept, and those from `at` on are as they were
pub record ArePrunedBefore (extents now : List Extent) (at kept : ℕ) : Type 0 where
  pub same : IsPermutation extents now
  pub long : length now ≡ length extents
  pub rest : (k : ℕ) → at ≤ k → extent_in now k ≡ extent_in extents k
  pub order : kept ≤ at
  pub pruned : AreKept extents at (take kept now)

-- `page` is that of the last extent before index `at`. From a kept extent of `page` on, at most as many extents are
-- kept as `seen` has granules. Of each page at most 64 extents are kept.
pub record AreFewSeen (extents : List Extent) (at page seen : ℕ) (kept : List Extent) : Type 0 where
  pub last : 0 < at → page ≡ page_in extents (at - 1)
  pub held : (k : ℕ) → k < length kept → page_in kept k ≡ page → length kept ≤ k + count_ones seen
  pub pages : AreFewAPage kept
