-- Each reachable object is counted once, under exactly those labels without which it would not be reachable.
use Rattle.std.specs.Prelude.{Contains, IsSome, List, Option, Some, ℕ, ◌↔◌, ◌≡◌}
use Rattle.heap_graph.specs.ObjectGraph.{ObjectGraph}
use Rattle.heap_graph.specs.Reachable.{IsReachable}
use Rattle.labelled_graph.specs.Labels.{IsRoot, IsRootWithout, Refers, RefersWithout}
use Rattle.label_list.specs.declared.entry.Entry.{Entry}

-- `set_of` has for each object the number of a set of labels, or `None`, and `labels_of` the labels of each set. An
-- object has a set exactly if it is reachable. A label is in the set exactly if the object is not reachable by roots
-- and references without the label.
pub record AreHeld (g : ObjectGraph) (list : List Entry) (set_of : ℕ → Option ℕ)
    (labels_of : ℕ → List ℕ) : Type 0 where
  pub reached : (o : ℕ) → IsSome (set_of o) ↔ IsReachable (IsRoot g list) (Refers g list) o
  pub kept : (o s l : ℕ) → set_of o ≡ Some s → Contains (labels_of s) l
      → IsReachable (IsRootWithout g list l) (RefersWithout g list l) o → ⊥
  pub lost : (o s l : ℕ) → set_of o ≡ Some s → (Contains (labels_of s) l → ⊥)
      → IsReachable (IsRootWithout g list l) (RefersWithout g list l) o
