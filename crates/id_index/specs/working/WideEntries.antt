-- Entries of full width: an object's identifier, in two halves, and the object's number.
use Rattle.std.specs.Prelude.{Bool, Contains, List, Some, length, map, slice_get, slice_index_or, ◌*◌, ◌+◌, ◌<◌, ◌==◌}
use Rattle.std.specs.Prelude.{◌^◌, ◌≡◌, ◌≤◌, ◌⊎◌, ◌-◌, ℕ}
use Rattle.std.specs.List.{position_or_len, range_with_len}
use Rattle.id_index.specs.declared.wide_entries.WideEntry.{WideEntry}

abbrev pub entry_of : ℕ → ℕ → ℕ → WideEntry
entry_of high low number = record { high = high; low = low; number = number }

abbrev pub entry_in : List WideEntry → ℕ → WideEntry
entry_in entries k = slice_index_or entries k (entry_of 0 0 0)

-- an entry's identifier
abbrev pub id_of : WideEntry → ℕ
id_of entry = entry.high * 2 ^ 32 + entry.low

-- by this number entries are sorted: by identifier, and entries with the same identifier by number
abbrev pub key_of : WideEntry → ℕ
key_of entry = id_of entry * 2 ^ 32 + entry.number

-- `x` has the lower identifier, or the same identifier and the lower number
abbrev pub IsBefore : WideEntry → WideEntry → Type 0
IsBefore x y = (id_of x < id_of y) ⊎ ((id_of x ≡ id_of y) × (x.number < y.number))

-- each entry is before the later ones
abbrev pub AreOrdered : List WideEntry → Type 0
AreOrdered entries = (i j : ℕ) → i < j → j < length entries → IsBefore (entry_in entries i) (entry_in entries j)

-- the entries before index `at` have lower identifiers than `id`, and the others do not
pub record IsFirstFrom (entries : List WideEntry) (id at : ℕ) : Type 0 where
  pub within : at ≤ length entries
  pub before : (k : ℕ) → k < at → id_of (entry_in entries k) < id
  pub from : (k : ℕ) → at ≤ k → k < length entries → id ≤ id_of (entry_in entries k)

-- the first entry whose identifier is not below `id` is at `low` or later, and at `high` or earlier
pub record IsBetween (entries : List WideEntry) (id low high : ℕ) : Type 0 where
  pub order : low ≤ high
  pub within : high ≤ length entries
  pub before : (k : ℕ) → k < low → id_of (entry_in entries k) < id
  pub from : (k : ℕ) → high ≤ k → k < length entries → id ≤ id_of (entry_in entries k)

-- ---- the identifiers

-- the entries are those of the objects with the identifiers `ids`
pub record AreEntriesOf (entries : List WideEntry) (ids : List ℕ) : Type 0 where
  pub sound : (entry : WideEntry) → Contains entries entry → slice_get ids entry.number ≡ Some (id_of entry)
  pub complete : (id n : ℕ) → slice_get ids n ≡ Some id
      → (entry : WideEntry) × Contains entries entry × (id_of entry ≡ id) × (entry.number ≡ n)

abbrev pub is_numbered : ℕ → WideEntry → Bool
is_numbered number entry = entry.number == number

-- the identifier of object `number`, or 0 if no entry has that number
abbrev pub id_numbered : List WideEntry → ℕ → ℕ
id_numbered entries number = id_of (entry_in entries (position_or_len (is_numbered number) entries))

-- the identifiers of the objects in the order of their numbers
abbrev pub ids_of_entries : List WideEntry → List ℕ
ids_of_entries entries = map (id_numbered entries) (range_with_len 0 (length entries))

-- ---- while entries are pushed, and before they are sorted

-- the entry at index `k` has the number `k`
abbrev pub AreNumbered : List WideEntry → Type 0
AreNumbered entries = (k : ℕ) → k < length entries → (entry_in entries k).number ≡ k

-- no two entries have the same number
abbrev pub AreDistinct : List WideEntry → Type 0
AreDistinct entries = (i j : ℕ) → i < length entries → j < length entries
    → (entry_in entries i).number ≡ (entry_in entries j).number → i ≡ j

-- ---- repeats

-- the entry at index `at` has the identifier of the entry before it
pub record IsRepeatAt (entries : List WideEntry) (at : ℕ) : Type 0 where
  pub some : 0 < at
  pub within : at < length entries
  pub same : id_of (entry_in entries at) ≡ id_of (entry_in entries (at - 1))

-- `number` is the least number of an entry before index `end` that has the identifier of the entry before it, or
-- `count` if there is none
pub record IsLeastRepeat (entries : List WideEntry) (end count number : ℕ) : Type 0 where
  pub least : (at : ℕ) → IsRepeatAt entries at → at < end → number ≤ (entry_in entries at).number
  pub found : (number ≡ count) ⊎ ((at : ℕ) × IsRepeatAt entries at × (number ≡ (entry_in entries at).number))
