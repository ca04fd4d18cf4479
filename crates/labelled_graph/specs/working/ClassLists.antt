-- The marks of classes, as a list for each class.
use Rattle.std.specs.Prelude.{List, None, Option, [], slice_index_or, ℕ, ◌<◌}
use Rattle.heap_graph.specs.ObjectGraph.{ObjectGraph, class_at, class_count}
use Rattle.heap_graph.specs.declared.row.RowKey.{RowKey}
use Rattle.heap_graph.specs.declared.row.RowKey.TheVariants as keys
use Rattle.labelled_graph.specs.declared.mark.Mark.{Mark}
use Rattle.labelled_graph.specs.declared.mark.PlacedMark.{PlacedMark}
use Rattle.labelled_graph.specs.working.MarkMaps.{IsListOf, MarkMap, mark_at}

-- the marks of a row's class: none if the row is of no class
abbrev pub list_of : List (List PlacedMark) → RowKey → List PlacedMark
list_of lists (keys.Class n) = slice_index_or lists n []
list_of lists (keys.Primitive t) = []
list_of lists keys.ClassObject = []

abbrev pub class_mark_at : ObjectGraph → MarkMap → RowKey → ℕ → Option Mark
class_mark_at g marks (keys.Class n) i = mark_at marks (class_at g n).id i
class_mark_at g marks (keys.Primitive t) i = None
class_mark_at g marks keys.ClassObject i = None

-- each class's list has the marks that `marks` has at the class's identifier
abbrev pub AreClassLists : ObjectGraph → MarkMap → List (List PlacedMark) → Type 0
AreClassLists g marks lists =
    (n : ℕ) → n < class_count g → IsListOf marks (class_at g n).id (slice_index_or lists n [])
