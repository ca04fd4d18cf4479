-- What sets of several labels are made of.
use Rattle.std.specs.Prelude.{All, Contains, List, map, ℕ, ◌++◌, ◌<◌, ◌≡◌, ◌≤◌, ◌⊎◌}
use Rattle.std.specs.List.{AllPairs}
use Rattle.label_sets.specs.Sets.{IsPlain, Store, labels_of}
use Rattle.held_table.specs.declared.line.Joint.{Joint}
use Rattle.held_table.specs.declared.line.Line.{Line}

-- the sets that `joints` define
abbrev pub sets_of : List Joint → List ℕ
sets_of joints = map (λ j. j.set) joints

-- The number `s` says what its set is: it is empty, or has one label, or is defined by one of `joints`.
pub record IsDefined (store : Store) (joints : List Joint) (s : ℕ) : Type 0 where
  pub plain : IsPlain store s
  pub known : (s ≤ store.labels) ⊎ Contains (sets_of joints) s

-- a line is of the set `s`, or one of `joints` has it as a part
abbrev pub IsUsed : List Line → List Joint → ℕ → Type 0
IsUsed lines joints s =
    Contains (map (λ l. l.set) lines) s
    ⊎ ((j : Joint) × Contains joints j × ((j.first ≡ s) ⊎ (j.second ≡ s)))

-- The set of `j` has exactly the labels of the two others, both of which have lower numbers and are defined.
pub record IsJoint (store : Store) (joints : List Joint) (j : Joint) : Type 0 where
  pub several : store.labels < j.set
  pub labels_are : labels_of store j.set ≡ labels_of store j.first ++ labels_of store j.second
  pub first_below : j.first < j.set
  pub second_below : j.second < j.set
  pub first_defined : IsDefined store joints j.first
  pub second_defined : IsDefined store joints j.second

-- Each of `joints` is one, and they are in the order of their sets, so that each set is defined before it is used.
pub record AreJoints (store : Store) (joints : List Joint) : Type 0 where
  pub each : All (IsJoint store joints) joints
  pub rising : AllPairs (λ a b. a.set < b.set) joints
