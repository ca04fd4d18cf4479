-- What holds of each graph of a linked heap list.
use Rattle.std.specs.Prelude.{All, List, [], count_by, length, slice_index_or, sum_by, ℕ, ◌+◌, ◌<◌, ◌^◌, ◌≡◌, ◌≤◌}
use Rattle.std.specs.List.{range_with_len}
use Rattle.heap_graph.specs.LinkRules.{most_objects}
use Rattle.heap_graph.specs.ObjectGraph.{ObjectGraph, bytes_at, class_count, object_count, references_of, row_at}
use Rattle.heap_graph.specs.Walks.{is_unresolved_in}
use Rattle.hprof_grammar.specs.Dump.{limit}
use Rattle.heap_graph.specs.declared.row.RowKey.{RowKey}
use Rattle.heap_graph.specs.declared.row.RowKey.TheVariants as keys

-- the identifiers that an object holds
abbrev pub id_list_of : ObjectGraph → ℕ → List ℕ
id_list_of g o = slice_index_or g.id_lists o []

-- the number of unresolved identifiers that an object holds, and of those of the roots
abbrev pub unresolved_at : ObjectGraph → ℕ → ℕ
unresolved_at g o = count_by (is_unresolved_in g.ids) (id_list_of g o)

abbrev pub unresolved_roots : ObjectGraph → ℕ
unresolved_roots g = count_by (is_unresolved_in g.ids) g.root_names

-- the number of unresolved identifiers that the objects with the numbers `numbers` hold together
abbrev pub unresolved_among : ObjectGraph → List ℕ → ℕ
unresolved_among g numbers = sum_by (unresolved_at g) numbers

-- a row that the graph has
abbrev pub IsRowIn : ObjectGraph → RowKey → Type 0
IsRowIn g (keys.Class n) = n < class_count g
IsRowIn g (keys.Primitive t) = (4 ≤ t) × (t ≤ 11)
IsRowIn g keys.ClassObject = Unit {0}

-- Each object has one identifier, one list of the identifiers that it holds, one row and one number of bytes. Roots,
-- references and rows name only objects and classes of the graph. The numbers of objects, classes, bytes and unresolved
-- identifiers have bounds.
pub record IsWhole (g : ObjectGraph) : Type 0 where
  pub id_each : length g.ids ≡ object_count g
  pub id_list_each : length g.id_lists ≡ object_count g
  pub row_each : length g.rows ≡ object_count g
  pub bytes_each : length g.bytes ≡ object_count g
  pub few_objects : object_count g ≤ most_objects
  pub few_classes : class_count g ≤ object_count g
  pub roots_within : All (λ o. o < object_count g) g.roots
  pub references_within : (o : ℕ) → All (λ b. b < object_count g) (references_of g o)
  pub rows_within : (o : ℕ) → o < object_count g → IsRowIn g (row_at g o)
  pub few_bytes : (o : ℕ) → bytes_at g o ≤ limit
  pub few_unresolved : (o : ℕ) → unresolved_at g o ≤ 2 ^ 33
  pub few_unresolved_roots : unresolved_roots g ≤ limit
  -- the unresolved identifiers of all objects and of the roots are together those that a histogram reports
  pub both_parts : g.unresolved ≡ unresolved_among g (range_with_len 0 (object_count g)) + unresolved_roots g
