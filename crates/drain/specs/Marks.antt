-- The marked objects of a graph, and what is reported of them.
use Rattle.std.specs.Prelude.{Bool, List, length, nat_le, slice_index, ℕ, ◌≡◌, ◌≤◌}
use Rattle.heap_graph.specs.ObjectGraph.{ObjectGraph, object_count}
use Rattle.heap_graph.specs.Whole.{unresolved_among}
use Rattle.heap_graph.specs.declared.row.RowKey.{RowKey}
use Rattle.drain.specs.Sums.{sum_of_row}
use Rattle.drain.specs.Totals.{marked_objects, of_row, total}
use Rattle.drain.specs.declared.sum.Sum.{Sum}

-- `mark` is not 0: a white object has 0, a claimed one 1, and a finished one 2
abbrev pub is_set : ℕ → Bool
is_set mark = nat_le 1 mark

-- each claimed object was finished
abbrev pub AreFinished : List ℕ → Type 0
AreFinished marks = (o : ℕ) → 1 ≤ slice_index marks o → slice_index marks o ≡ 2

-- Which objects are marked; for each row, in the order of `sum_of_row`, the number of its marked objects and their
-- bytes together; and how many identifiers that marked objects hold are other than 0 and name no object.
pub record MarkedObjects : Type 0 where
  pub marks : List Bool
  pub sums : List Sum
  pub unresolved : ℕ

-- `m` has a mark for each object of `g`, and its sums and its number of unresolved identifiers are those of the marked
-- objects.
pub record IsMarkingOf (g : ObjectGraph) (m : MarkedObjects) : Type 0 where
  pub one_each : length m.marks ≡ object_count g
  pub tallies : (row : RowKey) → sum_of_row m.sums row ≡ total g (of_row g row (marked_objects g m.marks))
  pub unresolved_is : m.unresolved ≡ unresolved_among g (marked_objects g m.marks)
