-- The objects that a path of references connects to a root.
use Rattle.std.specs.Prelude.{Bool, Contains, List, [], false, length, slice_index_or, true, ℕ, ◌↔◌, ◌∷◌, ◌≡◌}
use Rattle.heap_graph.specs.ObjectGraph.{ObjectGraph, object_count, references_of}

-- each step from `a` along `path` is a reference, and the last object reached is `b`
abbrev pub LeadsTo : (ℕ → ℕ → Type 0) → ℕ → List ℕ → ℕ → Type 0
LeadsTo refers a [] b = a ≡ b
LeadsTo refers a (c ∷ path) b = refers a c × LeadsTo refers c path b

-- a path leads from a root to object `o`
pub record IsReachable (is_root : ℕ → Type 0) (refers : ℕ → ℕ → Type 0) (o : ℕ) : Type 0 where
  pub first : ℕ
  pub path : List ℕ
  pub root : is_root first
  pub leads : LeadsTo refers first path o

-- object `o` is a root of the graph `g`; below, object `a` of `g` refers to object `b`
abbrev pub IsRootOf : ObjectGraph → ℕ → Type 0
IsRootOf g o = Contains g.roots o

abbrev pub IsReferenceOf : ObjectGraph → ℕ → ℕ → Type 0
IsReferenceOf g a b = Contains (references_of g a) b

-- object `o` is marked: `marks` has a mark for each object, and no object after the last is marked
abbrev pub IsMarked : List Bool → ℕ → Type 0
IsMarked marks o = slice_index_or marks o false ≡ true

-- the marks are true exactly at the reachable objects
pub record MarksReachable (count : ℕ) (is_root : ℕ → Type 0) (refers : ℕ → ℕ → Type 0)
    (marks : List Bool) : Type 0 where
  pub one_each : length marks ≡ count
  pub exact : (o : ℕ) → IsMarked marks o ↔ IsReachable is_root refers o

abbrev pub MarksReachableOf : ObjectGraph → List Bool → Type 0
MarksReachableOf g marks = MarksReachable (object_count g) (IsRootOf g) (IsReferenceOf g) marks
