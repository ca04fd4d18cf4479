-- NarrowEntries of an object's identifier, minus `lowest`, and the object's number. `lowest` is the identifier of the
-- first granule of the least page.
use Rattle.std.specs.Prelude.{Bool, List, Some, length, map, slice_get, slice_index_or, ◌+◌, ◌-◌, ◌<◌, ◌==◌, ◌^◌}
use Rattle.std.specs.Prelude.{◌≡◌, ◌≢◌, ◌≤◌, ℕ}
use Rattle.std.specs.List.{position_or_len, range_with_len}
use Rattle.id_index.specs.declared.narrow_entries.NarrowEntry.{NarrowEntry}

abbrev pub narrow_of : ℕ → ℕ → NarrowEntry
narrow_of at number = record { at = at; number = number }

abbrev pub narrow_in : List NarrowEntry → ℕ → NarrowEntry
narrow_in entries k = slice_index_or entries k (narrow_of 0 0)

-- the entries before index `end` ascend strictly
abbrev pub DoAscend : List NarrowEntry → ℕ → Type 0
DoAscend entries end = (i j : ℕ) → i < j → j < end → (narrow_in entries i).at < (narrow_in entries j).at

-- the entries before index `end` are set
abbrev pub AreSet : List NarrowEntry → ℕ → Type 0
AreSet entries end = (k : ℕ) → k < end → (narrow_in entries k).number ≢ 2 ^ 32 - 1

-- the entry at index `k` has the identifier `id` and the number `number`
pub record IsNarrowAt (entries : List NarrowEntry) (lowest id number k : ℕ) : Type 0 where
  pub within : k < length entries
  pub id_is : lowest + (narrow_in entries k).at ≡ id
  pub number_is : (narrow_in entries k).number ≡ number

-- an entry has the identifier `id` and the number `number`
abbrev pub Names : List NarrowEntry → ℕ → ℕ → ℕ → Type 0
Names entries lowest id number = (k : ℕ) × IsNarrowAt entries lowest id number k

-- ---- the identifiers

abbrev pub is_numbered : ℕ → NarrowEntry → Bool
is_numbered number entry = entry.number == number

-- the identifier of object `number`, or `lowest` if no entry has that number
abbrev pub id_in_narrow : List NarrowEntry → ℕ → ℕ → ℕ
id_in_narrow entries lowest number = lowest + (narrow_in entries (position_or_len (is_numbered number) entries)).at

-- the identifiers of the first `count` objects in the order of their numbers
abbrev pub ids_of_narrow : List NarrowEntry → ℕ → ℕ → List ℕ
ids_of_narrow entries lowest count = map (id_in_narrow entries lowest) (range_with_len 0 count)

-- an object has an identifier exactly if an entry has it with the object's number
pub record Agree (entries : List NarrowEntry) (lowest : ℕ) (ids : List ℕ) : Type 0 where
  pub sound : (k : ℕ) → k < length entries
      → slice_get ids (narrow_in entries k).number ≡ Some (lowest + (narrow_in entries k).at)
  pub complete : (id n : ℕ) → slice_get ids n ≡ Some id → Names entries lowest id n

-- ---- while entries are placed

abbrev pub IsSet : List NarrowEntry → ℕ → Type 0
IsSet entries k = (k < length entries) × ((narrow_in entries k).number ≢ 2 ^ 32 - 1)

-- the entries that are set are those of the first `count` objects, one for each
pub record ArePlaced (entries : List NarrowEntry) (count : ℕ) : Type 0 where
  pub few : length entries < 2 ^ 32
  pub fits : count ≤ length entries
  pub below : (k : ℕ) → IsSet entries k → (narrow_in entries k).number < count
  pub one : (i j : ℕ) → IsSet entries i → j < length entries
      → (narrow_in entries i).number ≡ (narrow_in entries j).number → i ≡ j
  pub each : (n : ℕ) → n < count → (k : ℕ) × (k < length entries) × ((narrow_in entries k).number ≡ n)
