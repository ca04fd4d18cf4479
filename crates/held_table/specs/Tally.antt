-- The lines of a table: for each set of labels, each row and each remainder of bytes by 16, how many objects have these
-- three, and their bytes.
use Rattle.std.specs.Prelude.{Bool, Contains, List, None, Option, Some, filter, length, sum_by, ℕ, ◌%◌, ◌&&◌, ◌<◌, ◌==◌, ◌≡◌}
use Rattle.std.specs.Prelude.{All, false}
use Rattle.std.specs.List.{IsDistinct}
use Rattle.std.specs.Ordering.{nat_cmp, ordering_then}
use Rattle.std.specs.declared.cmp.Ordering.{Ordering}
use Rattle.heap_graph.specs.ObjectGraph.{ObjectGraph, bytes_at, row_at}
use Rattle.heap_graph.specs.RowNumbers.{row_number}
use Rattle.held_table.specs.declared.line.Line.{Line}

-- the number is `s`
abbrev pub is_number : Option ℕ → ℕ → Bool
is_number None s = false
is_number (Some n) s = n == s

-- the remainder of an object's bytes by 16
abbrev pub remainder_at : ObjectGraph → ℕ → ℕ
remainder_at g o = bytes_at g o % 16

-- object `o`, which has the set `set_of o`, has the set, the row and the remainder of the line `l`
abbrev pub is_in_line : ObjectGraph → (ℕ → Option ℕ) → Line → ℕ → Bool
is_in_line g set_of l o =
    is_number (set_of o) l.set && ((row_number (row_at g o) == l.row) && (remainder_at g o == l.remainder))

-- those of `objects` that are in the line `l`
abbrev pub objects_in : ObjectGraph → (ℕ → Option ℕ) → List ℕ → Line → List ℕ
objects_in g set_of objects l = filter (is_in_line g set_of l) objects

-- both lines are of one set, one row and one remainder
abbrev pub same_line : Line → Line → Bool
same_line a b = (a.set == b.set) && ((a.row == b.row) && (a.remainder == b.remainder))

-- a line of the set `s`, and of the row and the remainder of object `o`
abbrev pub IsLineOf : ObjectGraph → ℕ → ℕ → Line → Type 0
IsLineOf g o s l = (l.set ≡ s) × (l.row ≡ row_number (row_at g o)) × (l.remainder ≡ remainder_at g o)

-- Each line has the number and the bytes of its objects, and has an object. Each object that has a set is in a line,
-- and no two lines are of the same set, row and remainder. So each of `objects` that has a set is counted in exactly one
-- line.
pub record IsTally (g : ObjectGraph) (set_of : ℕ → Option ℕ) (objects : List ℕ) (lines : List Line) : Type 0 where
  pub counts : All (λ l. l.count ≡ length (objects_in g set_of objects l)) lines
  pub bytes : All (λ l. l.bytes ≡ sum_by (bytes_at g) (objects_in g set_of objects l)) lines
  pub some : All (λ l. 0 < l.count) lines
  pub all : (o s : ℕ) → Contains objects o → set_of o ≡ Some s
      → (l : Line) × Contains lines l × IsLineOf g o s l
  pub once : IsDistinct same_line lines

-- bytes falling, count falling, set rising, row rising, remainder rising
abbrev pub compare : Line → Line → Ordering
compare a b =
    ordering_then (nat_cmp b.bytes a.bytes) (
    ordering_then (nat_cmp b.count a.count) (
    ordering_then (nat_cmp a.set b.set) (
    ordering_then (nat_cmp a.row b.row) (
    nat_cmp a.remainder b.remainder))))
