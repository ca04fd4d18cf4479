-- Extents: objects of one page of 64 granules whose numbers follow one another. An extent is its page, the number of
-- its first object, and a word with a bit set for each granule where the extent has an object.
use Rattle.std.specs.Prelude.{Bool, Contains, List, None, Option, Some, count_ones, length, map, slice_get}
use Rattle.std.specs.Prelude.{slice_index_or, ◌&&◌, ◌+◌, ◌*◌, ◌/◌, ◌%◌, ◌^◌, ◌<◌, ◌==◌, ◌≡◌, ◌≢◌, ◌≤◌, nat_lt, ℕ}
use Rattle.std.specs.Int.{bit_at}
use Rattle.std.specs.List.{find, position_or_len, range_with_len}
use Rattle.std.specs.Option.{option_map_or}
use Rattle.id_index.specs.declared.extents.Extent.{Extent}

-- the number of granules below `granule` that are set
abbrev pub rank : ℕ → ℕ → ℕ
rank granules granule = count_ones (granules % 2 ^ granule)

-- the number of the object at a granule of an extent
abbrev pub number_in : Extent → ℕ → ℕ
number_in extent granule = extent.first + rank extent.granules granule

-- the number after those of an extent's objects
abbrev pub end_of : Extent → ℕ
end_of extent = extent.first + count_ones extent.granules

-- the extent has the object `number` at granule `granule`
pub record IsNumberAt (extent : Extent) (granule number : ℕ) : Type 0 where
  pub set : bit_at extent.granules granule ≡ 1
  pub number_is : number ≡ number_in extent granule

-- the extent has an object with identifier `id`
pub record HasBearer (extent : Extent) (id : ℕ) : Type 0 where
  pub page : extent.page ≡ id / 64
  pub set : bit_at extent.granules (id % 64) ≡ 1

abbrev pub extent_of : ℕ → ℕ → ℕ → Extent
extent_of page first granules = record { page = page; first = first; granules = granules }

-- an extent without objects
abbrev pub no_extent : Extent
no_extent = extent_of 0 0 0

abbrev pub extent_in : List Extent → ℕ → Extent
extent_in extents k = slice_index_or extents k no_extent

-- ---- extents in any order

-- each object in the extents has its identifier in `ids`, at its number
abbrev pub AreSound : List Extent → List ℕ → Type 0
AreSound extents ids = (extent : Extent) (id : ℕ) → Contains extents extent → HasBearer extent id
    → slice_get ids (number_in extent (id % 64)) ≡ Some id

-- each object in `ids` has its granule in one of the extents
abbrev pub AreComplete : List Extent → List ℕ → Type 0
AreComplete extents ids = (id n : ℕ) → slice_get ids n ≡ Some id
    → (extent : Extent) × Contains extents extent × HasBearer extent id × (number_in extent (id % 64) ≡ n)

-- object `number` is at granule `granule` of the extent
abbrev pub stands_at : Extent → ℕ → ℕ → Bool
stands_at extent number granule = (bit_at extent.granules granule == 1) && (number_in extent granule == number)

-- the granule of object `number`, or 64 if the extent does not have it
abbrev pub granule_of : Extent → ℕ → ℕ
granule_of extent number = position_or_len (stands_at extent number) (range_with_len 0 64)

abbrev pub id_in : ℕ → Extent → ℕ
id_in number extent = extent.page * 64 + granule_of extent number

-- the identifier of object `number`, or 0 if no extent has it
abbrev pub id_of_number : List Extent → ℕ → ℕ
id_of_number extents number =
    option_map_or (id_in number) (find (λ extent. nat_lt (granule_of extent number) 64) extents) 0

-- the identifiers of the first `count` objects, in the order of their numbers
abbrev pub ids_of_extents : List Extent → ℕ → List ℕ
ids_of_extents extents count = map (id_of_number extents) (range_with_len 0 count)

-- ---- ascending extents

abbrev pub page_in : List Extent → ℕ → ℕ
page_in extents k = (extent_in extents k).page

-- the page of each extent is at most that of a later one
abbrev pub DoPagesRise : List Extent → Type 0
DoPagesRise extents = (i j : ℕ) → i ≤ j → j < length extents → page_in extents i ≤ page_in extents j

-- the extents before index `at` have smaller pages, and the others do not
pub record IsFirstFrom (extents : List Extent) (page at : ℕ) : Type 0 where
  pub within : at ≤ length extents
  pub below : (k : ℕ) → k < at → page_in extents k < page
  pub above : (k : ℕ) → at ≤ k → k < length extents → page ≤ page_in extents k

-- no extent has the page
abbrev pub IsNoPage : List Extent → ℕ → Type 0
IsNoPage extents page = (k : ℕ) → k < length extents → page_in extents k ≢ page

-- pages rise, and if two extents are of one page, the objects of the first come before those of the second
pub record AreAscending (extents : List Extent) : Type 0 where
  pub rise : DoPagesRise extents
  pub few : (k : ℕ) → k < length extents → end_of (extent_in extents k) < 2 ^ 32
  pub apart : (i j : ℕ) → i < j → j < length extents → page_in extents i ≡ page_in extents j
      → end_of (extent_in extents i) ≤ (extent_in extents j).first

-- the extents at k and at k + 64 are of different pages
abbrev pub AreFewAPage : List Extent → Type 0
AreFewAPage extents = (k : ℕ) → k + 64 < length extents → page_in extents k ≡ page_in extents (k + 64) → ⊥

-- what the extents say of the objects with the identifiers `ids` is true, and for each object an extent has its
-- identifier, with its number or a lower one
pub record Tell (extents : List Extent) (ids : List ℕ) : Type 0 where
  pub sound : (k id : ℕ) → k < length extents → HasBearer (extent_in extents k) id
      → slice_get ids (number_in (extent_in extents k) (id % 64)) ≡ Some id
  pub earliest : (id n : ℕ) → slice_get ids n ≡ Some id → (k : ℕ) × (k < length extents)
      × HasBearer (extent_in extents k) id × (number_in (extent_in extents k) (id % 64) ≤ n)

-- the first extent with identifier `id` is at index `at`, and has number `number` for it
pub record IsBearerAt (extents : List Extent) (id number at : ℕ) : Type 0 where
  pub within : at < length extents
  pub here : HasBearer (extent_in extents at) id
  pub number_is : number ≡ number_in (extent_in extents at) (id % 64)
  pub first : (k : ℕ) → k < at → HasBearer (extent_in extents k) id → ⊥

-- the number that the first extent with identifier `id` has for it; `None` if no extent has `id`
abbrev pub IsFirstBearer : List Extent → ℕ → Option ℕ → Type 0
IsFirstBearer extents id None = (k : ℕ) → k < length extents → HasBearer (extent_in extents k) id → ⊥
IsFirstBearer extents id (Some number) = (at : ℕ) × IsBearerAt extents id number at
