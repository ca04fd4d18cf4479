-- Which references and roots of a graph are followed, and which labels they have. All identifiers that an object holds
-- have a number, from 0 on, and so have the identifiers of the roots.
use Rattle.std.specs.Prelude.{Contains, List, Some, slice_get, ℕ, ◌≡◌, ◌⊎◌}
use Rattle.heap_graph.specs.ObjectGraph.{ObjectGraph, class_at, row_at}
use Rattle.heap_graph.specs.Walks.{target_in}
use Rattle.heap_graph.specs.Whole.{id_list_of}
use Rattle.heap_graph.specs.declared.row.RowKey.TheVariants as keys
use Rattle.label_list.specs.declared.entry.Entry.{Entry}
use Rattle.label_list.specs.declared.entry.Entry.TheVariants as entries
use Rattle.label_list.specs.declared.entry.Place.{Place}
use Rattle.label_list.specs.declared.entry.Place.TheVariants as places

-- the place is that of the identifier number `k` of object `o`
abbrev pub IsAt : ObjectGraph → ℕ → ℕ → Place → Type 0
IsAt g o k (places.Class id index) = (n : ℕ) × (row_at g o ≡ keys.Class n) × ((class_at g n).id ≡ id) × (k ≡ index)
IsAt g o k (places.Object id index) = (target_in g.ids id ≡ Some o) × (k ≡ index)
IsAt g o k (places.Root index) = ⊥

-- the place is that of root number `k`
abbrev pub IsAtRoot : ℕ → Place → Type 0
IsAtRoot k (places.Root index) = k ≡ index
IsAtRoot k (places.Class id index) = ⊥
IsAtRoot k (places.Object id index) = ⊥

-- An entry of `list` cuts one of the places at which `at` holds; an entry gives one of them the label `l`.
abbrev pub IsCut : List Entry → (Place → Type 0) → Type 0
IsCut list at = (p : Place) × Contains list (entries.Cut p) × at p

abbrev pub HasLabelAt : List Entry → ℕ → (Place → Type 0) → Type 0
HasLabelAt list l at = (p : Place) × Contains list (entries.Label l p) × at p

-- number `k` of the identifiers `ids` names object `b` of `g`
abbrev pub Names : ObjectGraph → List ℕ → ℕ → ℕ → Type 0
Names g ids k b = (id : ℕ) × (slice_get ids k ≡ Some id) × (target_in g.ids id ≡ Some b)

-- object `a` refers to object `b` by its identifier number `k`, which is not cut
pub record FollowsAt (g : ObjectGraph) (list : List Entry) (a k b : ℕ) : Type 0 where
  pub names : Names g (id_list_of g a) k b
  pub uncut : IsCut list (IsAt g a k) → ⊥

-- root number `k`, which is not cut, is object `o`
pub record IsRootAt (g : ObjectGraph) (list : List Entry) (k o : ℕ) : Type 0 where
  pub names : Names g g.root_names k o
  pub uncut : IsCut list (IsAtRoot k) → ⊥

-- an entry makes object `o` a root
abbrev pub IsAdded : ObjectGraph → List Entry → ℕ → Type 0
IsAdded g list o = (id : ℕ) × Contains list (entries.Root id) × (target_in g.ids id ≡ Some o)

-- `o` is a root; `a` refers to `b`
abbrev pub IsRoot : ObjectGraph → List Entry → ℕ → Type 0
IsRoot g list o = ((k : ℕ) × IsRootAt g list k o) ⊎ IsAdded g list o

abbrev pub Refers : ObjectGraph → List Entry → ℕ → ℕ → Type 0
Refers g list a b = (k : ℕ) × FollowsAt g list a k b

-- the same without the label `l`
abbrev pub IsRootWithout : ObjectGraph → List Entry → ℕ → ℕ → Type 0
IsRootWithout g list l o =
    ((k : ℕ) × IsRootAt g list k o × (HasLabelAt list l (IsAtRoot k) → ⊥)) ⊎ IsAdded g list o

abbrev pub RefersWithout : ObjectGraph → List Entry → ℕ → ℕ → ℕ → Type 0
RefersWithout g list l a b = (k : ℕ) × FollowsAt g list a k b × (HasLabelAt list l (IsAt g a k) → ⊥)
