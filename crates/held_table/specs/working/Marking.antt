-- The sets of several labels while they are gathered.
use Rattle.std.specs.Prelude.{All, Bool, Contains, List, None, Option, Some, false, map, slice_index_or, true, ℕ}
use Rattle.std.specs.Prelude.{◌++◌, ◌<◌, ◌≡◌, ◌≤◌}
use Rattle.std.specs.List.{AllPairs}
use Rattle.label_sets.specs.Sets.{IsPlain, Store, labels_of}
use Rattle.held_table.specs.Joints.{IsUsed, sets_of}
use Rattle.held_table.specs.declared.line.Joint.{Joint}
use Rattle.held_table.specs.declared.line.Line.{Line}

-- a line whose set is shown as it is
pub record IsPlainLine (store : Store) (count : ℕ) (l : Line) : Type 0 where
  pub within : l.set < count
  pub plain : IsPlain store l.set

-- `s` is marked
abbrev pub IsMarked : List Bool → ℕ → Type 0
IsMarked marks s = slice_index_or marks s false ≡ true

-- the sets of `lines` are marked
abbrev pub AreMarked : List Line → List Bool → Type 0
AreMarked lines marks = All (λ l. IsMarked marks l.set) lines

-- no others are marked
abbrev pub AreOnly : List Line → List Bool → Type 0
AreOnly lines marks = (s : ℕ) → IsMarked marks s → Contains (map (λ l. l.set) lines) s

-- `j` says what the set `s` consists of
pub record IsUnion (store : Store) (s : ℕ) (j : Joint) : Type 0 where
  pub set_is : j.set ≡ s
  pub several : store.labels < s
  pub labels_are : labels_of store s ≡ labels_of store j.first ++ labels_of store j.second
  pub first_below : j.first < s
  pub second_below : j.second < s
  pub first_plain : IsPlain store j.first
  pub second_plain : IsPlain store j.second

abbrev pub IsUnionOf : Store → ℕ → Option Joint → Type 0
IsUnionOf store s None = s ≤ store.labels
IsUnionOf store s (Some j) = IsUnion store s j

-- `j` is gathered: it and both its parts are marked
pub record IsGathered (store : Store) (marks : List Bool) (j : Joint) : Type 0 where
  pub union : IsUnion store j.set j
  pub marked : IsMarked marks j.set
  pub first_marked : IsMarked marks j.first
  pub second_marked : IsMarked marks j.second

-- The marked sets from `n` on are gathered, the highest first. Each marked set is shown as it is, and used.
pub record AreGathered (store : Store) (lines : List Line) (marks : List Bool) (n : ℕ) (joints : List Joint) : Type 0
  where
    pub plain : (s : ℕ) → IsMarked marks s → IsPlain store s
    pub used : (s : ℕ) → IsMarked marks s → IsUsed lines joints s
    pub known : (s : ℕ) → n ≤ s → IsMarked marks s → store.labels < s → Contains (sets_of joints) s
    pub each : All (IsGathered store marks) joints
    pub above : All (λ j. n ≤ j.set) joints
    pub falling : AllPairs (λ a b. b.set < a.set) joints
