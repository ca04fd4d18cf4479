-- Tables of marks that were read from a list of entries.
use Rattle.std.specs.Prelude.{Bool, Contains, List, Some, false, slice_index_or, true, ℕ, ◌<◌, ◌≡◌}
use Rattle.heap_graph.specs.ObjectGraph.{ObjectGraph, class_at, row_at}
use Rattle.heap_graph.specs.declared.row.RowKey.{RowKey}
use Rattle.heap_graph.specs.declared.row.RowKey.TheVariants as keys
use Rattle.label_list.specs.declared.entry.Entry.{Entry}
use Rattle.label_list.specs.declared.entry.Entry.TheVariants as entries
use Rattle.label_list.specs.declared.entry.Place.{Place}
use Rattle.label_sets.specs.Sets.{Store}
use Rattle.labelled_graph.specs.declared.mark.Mark.{Mark}
use Rattle.labelled_graph.specs.working.MarkMaps.{MarkMap, mark_at}
use Rattle.labelled_graph.specs.working.Saying.{AreMarks, Places, class_place, object_place}

-- the labels that entries give are less than `count`
abbrev pub AreLabelsBelow : List Entry → ℕ → Type 0
AreLabelsBelow list count = (l : ℕ) (p : Place) → Contains list (entries.Label l p) → l < count

-- the place is number `i` of the identifiers that the objects of a row's class hold
abbrev pub row_place : ObjectGraph → RowKey → ℕ → Place → Type 0
row_place g (keys.Class n) i p = class_place (class_at g n).id i p
row_place g (keys.Primitive t) i p = ⊥
row_place g keys.ClassObject i p = ⊥

-- the places of an object that go by its class
abbrev pub class_of_object : ObjectGraph → Places
class_of_object g o i p = row_place g (row_at g o) i p

-- the marks of single objects, and whether each object has some
pub record AreObjectMarks (store : Store) (g : ObjectGraph) (list : List Entry) (marks : MarkMap)
    (has : List Bool) : Type 0 where
  pub are : AreMarks store list (class_of_object g) list (object_place g.ids) marks
  pub covered : (o i : ℕ) (mark : Mark) → mark_at marks o i ≡ Some mark → slice_index_or has o false ≡ true
