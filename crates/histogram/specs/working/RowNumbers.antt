-- The entries of the rows up to a number.
use Rattle.std.specs.Prelude.{List, filter, map, nat_lt, ℕ}
use Rattle.std.specs.List.{range_with_len}
use Rattle.histogram.specs.Histogram.{Entry, entry}
use Rattle.histogram.specs.ShownNames.{row_id, shown_row}
use Rattle.heap_graph.specs.ObjectGraph.{ObjectGraph, row_at}
use Rattle.heap_graph.specs.RowNumbers.{numbered_row, row_number}
use Rattle.heap_graph.specs.declared.row.RowKey.{RowKey}

-- the entry of a row with the tally `told`: its number of objects and their bytes
abbrev pub row_entry : ObjectGraph → RowKey → ℕ × ℕ → Entry
row_entry g row told = record { name = shown_row g row; class = row_id g row; count = told.0; bytes = told.1 }

-- the entries of the rows that have a number below `n` and at least one of `objects`
abbrev pub entries_below : ObjectGraph → List ℕ → ℕ → List Entry
entries_below g objects n =
    filter (λ e. nat_lt 0 e.count) (map (λ k. entry g objects (numbered_row k)) (range_with_len 0 n))

-- the members of `objects` whose row has a number below `n`
abbrev pub objects_below : ObjectGraph → ℕ → List ℕ → List ℕ
objects_below g n objects = filter (λ o. nat_lt (row_number (row_at g o)) n) objects
