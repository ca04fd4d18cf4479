-- The number under which each set is shown.
use Rattle.std.specs.Prelude.{List, Option, slice_index, ℕ, ◌<◌, ◌≡◌, ◌≤◌}
use Rattle.std.specs.Prelude.{option_map}
use Rattle.heap_graph.specs.ObjectGraph.{ObjectGraph}
use Rattle.heap_graph.specs.RowNumbers.{row_count}
use Rattle.label_flow.specs.Flow.{Flow, set_of}
use Rattle.label_sets.specs.Sets.{IsPlain, Store, labels_of}

-- `p` is the number under which the set `s` is shown
pub record IsPlainOf (store : Store) (s p : ℕ) : Type 0 where
  pub labels_are : labels_of store p ≡ labels_of store s
  pub within : p ≤ s
  pub plain : IsPlain store p

-- `plains` has that number for each of the first `count` sets
abbrev pub ArePlains : Store → ℕ → List ℕ → Type 0
ArePlains store count plains = (s : ℕ) → s < count → IsPlainOf store s (slice_index plains s)

-- the number under which object `o` is shown
abbrev pub shown_by : Flow → List ℕ → ℕ → Option ℕ
shown_by flow plains o = option_map (slice_index plains) (set_of flow o)

-- a set and a row of a line: the set is shown as it is, and the row is one of the graph
pub record IsShown (g : ObjectGraph) (store : Store) (count set row : ℕ) : Type 0 where
  pub set_within : set < count
  pub set_plain : IsPlain store set
  pub row_within : row < row_count g
