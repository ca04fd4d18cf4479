-- The graph of a heap list: objects as numbers, with their identifiers, references, rows and bytes.
use Rattle.std.specs.Prelude.{List, None, Option, [], count_by, length, map, slice_index, slice_index_or, ℕ, ◌++◌, ◌≡◌}
use Rattle.std.specs.List.{concat}
use Rattle.heap_graph.specs.ClassNames.{class_text}
use Rattle.heap_graph.specs.Roots.{root_ids, root_objects}
use Rattle.heap_graph.specs.Heap.{class_dumps, heap_of, id_of, objects}
use Rattle.heap_graph.specs.Accepted.{IsAccepted}
use Rattle.heap_graph.specs.References.{AreIdLists, is_unresolved, targets}
use Rattle.heap_graph.specs.Rows.{bytes_of, row_of}
use Rattle.heap_graph.specs.Skips.{SkipEntry, is_skipped}
use Rattle.hprof_grammar.specs.Record.{Record}
use Rattle.hprof_grammar.specs.SubRecord.{Class, SubRecord}
use Rattle.heap_graph.specs.declared.row.RowKey.{RowKey}
use Rattle.heap_graph.specs.declared.row.RowKey.TheVariants as keys

-- a class, and the text that names it
pub record NamedClass : Type 0 where
  pub id : ℕ
  pub text : Option (List ℕ)

pub record ObjectGraph : Type 0 where
  -- the identifier of each object
  pub ids : List ℕ
  -- for each object, the identifiers that it holds, in order, and the objects that they name, with repeats
  pub id_lists : List (List ℕ)
  pub references : List (List ℕ)
  -- the identifiers of the root sub-records, in order, and the objects that they name, with repeats
  pub root_names : List ℕ
  pub roots : List ℕ
  -- for each object, its row and its bytes
  pub rows : List RowKey
  pub bytes : List ℕ
  -- the classes by their numbers
  pub classes : List NamedClass
  -- the number of identifiers other than 0, in objects and in roots, that name no object
  pub unresolved : ℕ

abbrev pub object_count : ObjectGraph → ℕ
object_count g = length g.references

abbrev pub class_count : ObjectGraph → ℕ
class_count g = length g.classes

-- the references, the row and the bytes of an object, by its number
abbrev pub references_of : ObjectGraph → ℕ → List ℕ
references_of g o = slice_index_or g.references o []

abbrev pub row_at : ObjectGraph → ℕ → RowKey
row_at g o = slice_index_or g.rows o keys.ClassObject

abbrev pub bytes_at : ObjectGraph → ℕ → ℕ
bytes_at g o = slice_index g.bytes o

-- the class with the number `n`
abbrev pub class_at : ObjectGraph → ℕ → NamedClass
class_at g n = slice_index_or g.classes n (record { id = 0; text = None })

-- the class dumps with the texts that name them
abbrev pub named_in : List Record → Class → NamedClass
named_in records c = record { id = c.object; text = class_text records c.object }

abbrev pub named_classes : List Record → List NamedClass
named_classes records = map (named_in records) (class_dumps (heap_of records))

-- the number of unresolved identifiers in `lists` and in roots. Each occurrence counts, also in unreachable objects
abbrev pub unresolved_in : List SubRecord → List (List ℕ) → ℕ
unresolved_in heap lists = count_by (is_unresolved heap) (concat lists ++ root_ids heap)

-- `g` is the graph of the heap list of `records`, if the fields that `skip` lists are not followed.
pub record IsGraphOf (s : ℕ) (records : List Record) (skip : List SkipEntry) (g : ObjectGraph) : Type 0 where
  pub ids_are : g.ids ≡ map id_of (objects (heap_of records))
  pub id_lists_are : AreIdLists (is_skipped records skip) s (heap_of records) g.id_lists
  pub references_are : g.references ≡ map (targets (heap_of records)) g.id_lists
  pub root_names_are : g.root_names ≡ root_ids (heap_of records)
  pub roots_are : g.roots ≡ root_objects (heap_of records)
  pub rows_are : g.rows ≡ map (row_of (heap_of records)) (objects (heap_of records))
  pub bytes_are : g.bytes ≡ map (bytes_of s) (objects (heap_of records))
  pub classes_are : g.classes ≡ named_classes records
  pub unresolved_is : g.unresolved ≡ unresolved_in (heap_of records) g.id_lists

-- The text is accepted, and `g` is the graph of the dump that it spells, if the fields that `skip` lists are not
-- followed.
pub record IsGraphOfText (text : List ℕ) (skip : List SkipEntry) (g : ObjectGraph) : Type 0 where
  pub id_size : ℕ
  pub records : List Record
  pub accepted : IsAccepted text id_size records
  pub graph : IsGraphOf id_size records skip g
