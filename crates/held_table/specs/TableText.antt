-- The text of a table: what sets of several labels are made of, then a line for each set, row and remainder.
use Rattle.std.specs.Prelude.{List, [], codes, decimal, flat_map, if◌then◌else◌, ℕ, ◌++◌, ◌-◌, ◌==◌, ◌∷◌}
use Rattle.heap_graph.specs.ObjectGraph.{ObjectGraph}
use Rattle.heap_graph.specs.RowNumbers.{numbered_row}
use Rattle.held_table.specs.declared.line.Joint.{Joint}
use Rattle.held_table.specs.declared.line.Line.{Line}
use Rattle.histogram.specs.Report.{right_in}
use Rattle.histogram.specs.ShownNames.{shown_row}

-- A set is shown by its number less 1, so that a set of one label is shown by the number of the label; the empty set,
-- number 0, is shown as a hyphen.
unfoldable pub shown_set : ℕ → List ℕ
shown_set s = if s == 0 then codes "-" else decimal (s - 1)

-- set 12 = 3 + 7
unfoldable pub joint_line : Joint → List ℕ
joint_line j =
    codes "set " ++ shown_set j.set ++ codes " = " ++ shown_set j.first ++ codes " + " ++ shown_set j.second ++ 10 ∷ []

-- the count right-aligned in 10 places, the bytes in 14, the remainder in 2, with two blanks after each
unfoldable pub numbers : ℕ → ℕ → ℕ → List ℕ
numbers count bytes remainder =
    right_in 10 (decimal count) ++ codes "  " ++ right_in 14 (decimal bytes) ++ codes "  "
    ++ right_in 2 (decimal remainder) ++ codes "  "

-- the count, the bytes and the remainder, the set, and the name of the row, with two blanks between
unfoldable pub table_line : ObjectGraph → Line → List ℕ
table_line g l =
    numbers l.count l.bytes l.remainder ++ shown_set l.set ++ codes "  " ++ shown_row g (numbered_row l.row) ++ 10 ∷ []

abbrev pub table_text : ObjectGraph → List Joint → List Line → List ℕ
table_text g joints lines = flat_map joint_line joints ++ flat_map (table_line g) lines
