-- The number of objects in a graph with marks, and their bytes.
use Rattle.std.specs.Prelude.{Bool, List, false, filter, length, not, slice_index_or, sum_by, true, ℕ, ◌==◌}
use Rattle.std.specs.List.{range_with_len}
use Rattle.heap_graph.specs.ObjectGraph.{ObjectGraph, bytes_at, object_count, row_at}
use Rattle.heap_graph.specs.declared.row.RowKey.{RowKey}
use Rattle.heap_graph.specs.declared.row.RowKey.TheVariants as keys

-- a test whether two rows are the same
abbrev pub same_row : RowKey → RowKey → Bool
same_row (keys.Class a) (keys.Class b) = a == b
same_row (keys.Primitive a) (keys.Primitive b) = a == b
same_row keys.ClassObject keys.ClassObject = true
same_row a b = false

-- the objects that are marked, and those that are not
abbrev pub marked_objects : ObjectGraph → List Bool → List ℕ
marked_objects g marks = filter (λ o. slice_index_or marks o false) (range_with_len 0 (object_count g))

abbrev pub unmarked_objects : ObjectGraph → List Bool → List ℕ
unmarked_objects g marks = filter (λ o. not (slice_index_or marks o false)) (range_with_len 0 (object_count g))

-- the objects among `numbers` that belong to `row`
abbrev pub of_row : ObjectGraph → RowKey → List ℕ → List ℕ
of_row g row numbers = filter (λ o. same_row row (row_at g o)) numbers

-- the number of objects in `numbers`, and their bytes together
abbrev pub total : ObjectGraph → List ℕ → ℕ × ℕ
total g numbers = (length numbers, sum_by (bytes_at g) numbers)
