-- The sums of rows in a tally, and which of them belongs to a row.
use Rattle.std.specs.Prelude.{List, if◌then◌else◌, nat_le, slice_index_or, ℕ, ◌&&◌, ◌+◌, ◌-◌}
use Rattle.heap_graph.specs.declared.row.RowKey.{RowKey}
use Rattle.heap_graph.specs.declared.row.RowKey.TheVariants as keys
use Rattle.drain.specs.declared.sum.Sum.{Sum}

abbrev pub no_object : Sum
no_object = record { count = 0; bytes = 0 }

-- the number of objects of row `number` and their bytes together, or 0 and 0 if there is no row of this number
abbrev pub sum_at : List Sum → ℕ → ℕ × ℕ
sum_at rows number = ((slice_index_or rows number no_object).count, (slice_index_or rows number no_object).bytes)

-- The types 4 to 11 come first, then the class objects, then the classes by their numbers. Any other row has no object.
abbrev pub sum_of_row : List Sum → RowKey → ℕ × ℕ
sum_of_row rows (keys.Class n) = sum_at rows (9 + n)
sum_of_row rows (keys.Primitive t) = if nat_le 4 t && nat_le t 11 then sum_at rows (t - 4) else (0, 0)
sum_of_row rows keys.ClassObject = sum_at rows 8
