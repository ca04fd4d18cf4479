-- The rows of a histogram by their numbers.
use Rattle.std.specs.Prelude.{if◌then◌else◌, nat_lt, ℕ, ◌+◌, ◌-◌, ◌==◌}
use Rattle.heap_graph.specs.ObjectGraph.{ObjectGraph, class_count}
use Rattle.heap_graph.specs.declared.row.RowKey.{RowKey}
use Rattle.heap_graph.specs.declared.row.RowKey.TheVariants as keys

-- the number of a row: the types 4 to 11 first, then the class objects, then the classes by their numbers
abbrev pub row_number : RowKey → ℕ
row_number (keys.Primitive t) = t - 4
row_number keys.ClassObject = 8
row_number (keys.Class n) = 9 + n

-- the row with the number `n`
abbrev pub numbered_row : ℕ → RowKey
numbered_row n =
    if nat_lt n 8 then keys.Primitive (4 + n) else (
    if n == 8 then keys.ClassObject else (
    keys.Class (n - 9)))

abbrev pub row_count : ObjectGraph → ℕ
row_count g = 9 + class_count g
