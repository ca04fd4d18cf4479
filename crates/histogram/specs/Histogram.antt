-- The histogram of a graph with marks: how many objects each row has, and how many bytes.
use Rattle.std.specs.Prelude.{Bool, IsPermutation, IsSorted, List, filter, length, map, nat_lt, sum_by, ℕ}
use Rattle.std.specs.Prelude.{◌++◌, ◌∷◌, ◌≡◌}
use Rattle.std.specs.List.{range_with_len}
use Rattle.heap_graph.specs.ObjectGraph.{ObjectGraph, bytes_at, class_count}
pub use Rattle.drain.specs.Totals.{marked_objects, of_row, same_row, total, unmarked_objects}
use Rattle.histogram.specs.ShownNames.{row_id, shown_row}
use Rattle.std.specs.Ordering.{nat_cmp, ordering_then}
use Rattle.std.specs.Cmp.Lexicographic.{slice_cmp}
use Rattle.std.specs.declared.cmp.Ordering.{Ordering}
use Rattle.heap_graph.specs.declared.row.RowKey.{RowKey}
use Rattle.heap_graph.specs.declared.row.RowKey.TheVariants as keys

-- all rows: the eight primitive types, the class objects, the classes by their numbers
abbrev pub all_rows : ObjectGraph → List RowKey
all_rows g =
    map keys.Primitive (range_with_len 4 8)
    ++ keys.ClassObject ∷ map keys.Class (range_with_len 0 (class_count g))

-- a row with its shown name, the identifier of its class or 0, its number of objects and their bytes together
pub record Entry : Type 0 where
  pub name : List ℕ
  pub class : ℕ
  pub count : ℕ
  pub bytes : ℕ

abbrev pub entry : ObjectGraph → List ℕ → RowKey → Entry
entry g numbers row = record {
  name = shown_row g row;
  class = row_id g row;
  count = length (of_row g row numbers);
  bytes = sum_by (bytes_at g) (of_row g row numbers);
}

-- an entry for each row that has at least one of the objects `numbers`
unfoldable pub entries : ObjectGraph → List ℕ → List Entry
entries g numbers = filter (λ e. nat_lt 0 e.count) (map (entry g numbers) (all_rows g))

-- bytes falling, count falling, shown name rising (a beginning before its extension), class identifier rising
abbrev pub compare : Entry → Entry → Ordering
compare a b =
    ordering_then (nat_cmp b.bytes a.bytes) (
    ordering_then (nat_cmp b.count a.count) (
    ordering_then (slice_cmp nat_cmp a.name b.name) (
    nat_cmp a.class b.class)))

-- the rows in order; the number and the bytes of all marked objects, and of all others; and the number of identifiers
-- other than 0 that name no object
pub record Histogram : Type 0 where
  pub rows : List Entry
  pub reachable : ℕ × ℕ
  pub unreachable : ℕ × ℕ
  pub unresolved : ℕ

-- `h` is the histogram of the graph `g` with `marks`: it has each row with a marked object once, in order.
pub record IsHistogram (g : ObjectGraph) (marks : List Bool) (h : Histogram) : Type 0 where
  pub each_once : IsPermutation (entries g (marked_objects g marks)) h.rows
  pub in_order : IsSorted compare h.rows
  pub reachable_is : h.reachable ≡ total g (marked_objects g marks)
  pub unreachable_is : h.unreachable ≡ total g (unmarked_objects g marks)
  pub unresolved_is : h.unresolved ≡ g.unresolved
