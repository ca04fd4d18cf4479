-- Marks of places by a key and an index.
use Rattle.std.specs.BTreeMap as tree
use Rattle.std.specs.BTreeMap.{BTreeMap}
use Rattle.std.specs.Ordering.{nat_cmp, ordering_then}
use Rattle.std.specs.Prelude.{List, None, Option, Some, [], map, if◌then◌else◌, ℕ, ◌+◌, ◌<◌, ◌==◌, ◌^◌, ◌∷◌, ◌≡◌, ◌≤◌}
use Rattle.label_sets.specs.Sets.{Store}
use Rattle.labelled_graph.specs.declared.mark.Mark.{Mark}
use Rattle.labelled_graph.specs.declared.mark.PlacedMark.{PlacedMark}
use Rattle.labelled_graph.specs.declared.mark.Said.{Said}
use Rattle.labelled_graph.specs.working.MarkWords.{IsJoined}

abbrev pub MarkMap : Type 0
MarkMap = BTreeMap (ℕ × ℕ) Mark

-- the mark of place number `index` of what has the key `key`
abbrev pub mark_at : MarkMap → ℕ → ℕ → Option Mark
mark_at marks key index = tree.get (λ a b. ordering_then (nat_cmp a.0 b.0) (nat_cmp a.1 b.1)) marks (key, index)

-- `new` has `mark` at a place, and at any other place what `old` has
pub record IsPut (old new : MarkMap) (key index : ℕ) (mark : Mark) : Type 0 where
  pub low : index < 2 ^ 32
  pub here : mark_at new key index ≡ Some mark
  pub others : (k i : ℕ) → (k ≡ key → i ≡ index → ⊥) → mark_at new k i ≡ mark_at old k i

-- the first if it is there, otherwise the second
abbrev pub or_else : Option Mark → Option Mark → Option Mark
or_else None other = other
or_else (Some mark) other = Some mark

-- an entry was noted: the place has the mark that comes of the mark before and of what was said
pub record IsSaid (old_store new_store : Store) (old new : MarkMap) (base : Option Mark) (said : Said) : Type 0 where
  pub mark : Mark
  pub put : IsPut old new said.key said.index mark
  pub joined : IsJoined old_store new_store (or_else (mark_at old said.key said.index) base) said.label mark

-- ---- the marks of what has one key, as a list

-- the mark with the index `i`
abbrev pub found_at : List PlacedMark → ℕ → Option Mark
found_at [] i = None
found_at (m ∷ ms) i = if m.index == i then Some m.mark else found_at ms i

-- the indices ascend, from `n` on
abbrev pub IsFrom : ℕ → List PlacedMark → Type 0
IsFrom n [] = Unit {0}
IsFrom n (m ∷ ms) = (n ≤ m.index) × IsFrom (m.index + 1) ms

pub record IsListOf (marks : MarkMap) (key : ℕ) (list : List PlacedMark) : Type 0 where
  pub ascends : IsFrom 0 list
  pub same : (i : ℕ) → i < 2 ^ 32 → found_at list i ≡ mark_at marks key i

-- the entries of a table, as marks without their keys
abbrev pub placed_mark : (ℕ × ℕ) × Mark → PlacedMark
placed_mark e = record { index = e.0.1; mark = e.1 }

abbrev pub mark_entries : List ((ℕ × ℕ) × Mark) → List PlacedMark
mark_entries es = map placed_mark es
