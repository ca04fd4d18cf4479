-- Tables that say of a graph what a list of entries says, and the references that come of them.
use Rattle.std.specs.Prelude.{Bool, List, [], map, ℕ, ◌++◌, ◌≡◌}
use Rattle.heap_graph.specs.ObjectGraph.{ObjectGraph, row_at}
use Rattle.heap_graph.specs.Walks.{named_in, step_in, target_in}
use Rattle.heap_graph.specs.Whole.{id_list_of}
use Rattle.label_flow.specs.declared.graph.Reference.{Reference}
use Rattle.label_list.specs.declared.entry.Entry.{Entry}
use Rattle.label_sets.specs.Sets.{IsWhole, Store, labels_of}
use Rattle.labelled_graph.specs.Labels.{HasLabelAt, IsAt, IsAtRoot, IsCut}
use Rattle.labelled_graph.specs.declared.mark.PlacedMark.{PlacedMark}
use Rattle.labelled_graph.specs.working.Kept.{added_roots, kept, object_mark, root_mark}
use Rattle.labelled_graph.specs.working.MarkMaps.{MarkMap}
use Rattle.labelled_graph.specs.working.MarkWords.{Says}

-- set number 0 is the empty set
abbrev pub HasNone : Store → Type 0
HasNone store = (labels_of store 0 ≡ []) × IsWhole store 0

-- the references of object `o`, by the tables
abbrev pub labelled_references : ObjectGraph → List (List PlacedMark) → MarkMap → List Bool → ℕ → List Reference
labelled_references g classes marks has o =
    kept (object_mark classes marks has (row_at g o) o) 0 (named_in (map (step_in g.ids) (id_list_of g o)))

-- the tables say of the identifiers and the roots of `g` what `list` says of them
pub record AreTables (store : Store) (g : ObjectGraph) (list : List Entry) (classes : List (List PlacedMark))
    (marks : MarkMap) (has : List Bool) (roots : List Reference) : Type 0 where
  pub reads : (o i : ℕ) → Says store (IsCut list (IsAt g o i)) (λ l. HasLabelAt list l (IsAt g o i))
      (object_mark classes marks has (row_at g o) o i)
  pub root_marks : MarkMap
  pub reads_root : (k : ℕ) → Says store (IsCut list (IsAtRoot k)) (λ l. HasLabelAt list l (IsAtRoot k))
      (root_mark root_marks k)
  pub roots_are : roots ≡ kept (root_mark root_marks) 0 (map (target_in g.ids) g.root_names) ++ added_roots g.ids list
  pub none : HasNone store
