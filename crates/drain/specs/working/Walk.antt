-- The references of an object while it is visited, and what is read of it at their end.
use Rattle.std.specs.Prelude.{All, Contains, List, None, Option, option_to_list, ℕ, ◌++◌, ◌+◌, ◌<◌, ◌≡◌, ◌↔◌}
use Rattle.std.specs.Iterator.{AlwaysYields, Count, IsFinite, Yields}
use Rattle.heap_graph.specs.Walks.{Visited, references_left, unresolved_left}
use Rattle.drain.specs.declared.scanned_object.ScannedObject.{ScannedObject}
use Rattle.heap_graph.specs.RowNumbers.{row_number}
use Rattle.drain.specs.working.Scans.{MatchesMeasure}
use Rattle.drain.specs.working.Tallies.{Measure}

-- `v` is a visit of the object `o`: it yields exactly the objects that `o` refers to, all below `count`, and reads the
-- row, the bytes and the unresolved identifiers of `o`.
pub record IsVisitOf (refers : ℕ → Type 0) (count : ℕ) (m : Measure) (o : ℕ) (v : Visited) : Type 0 where
  pub exact : (x : ℕ) → Contains (references_left v) x ↔ refers x
  pub within : All (λ x. x < count) (references_left v)
  pub row : row_number v.row ≡ m.row o
  pub bytes : v.bytes ≡ m.bytes o
  pub unresolved : v.unresolved + unresolved_left v.left ≡ m.unresolved o

-- The iterator in the state `start` yielded some objects, or none, and then ended in the state `end`.
abbrev pub HasEnded : {S : Type 0} → (S → Option ℕ → S → Type 0) → S → S → Type 0
HasEnded {S} steps start end = (given : List ℕ) × (last : S) × Yields steps start given last × steps last None end

-- The class, if it is known, and the objects that the iterator `s` then yields are exactly those that `o` refers to.
-- The iterator ends, and what it has read of the object by then is complete.
pub record IsGiven {S : Type 0} (callable : S → Type 0) (steps : S → Option ℕ → S → Type 0) (left : S → Count)
    (read : S → ScannedObject) (refers : ℕ → Type 0) (m : Measure) (o : ℕ) (class : Option ℕ) (s : S) : Type 0 where
  pub can : callable s
  pub objects : List ℕ
  pub gives : AlwaysYields steps (λ x. x) s objects
  pub finite : IsFinite (left s)
  pub exact : (x : ℕ) → Contains (option_to_list class ++ objects) x ↔ refers x
  pub ends : (end : S) → HasEnded steps s end → MatchesMeasure m o (read end)
