-- A table: its lines and the sets that they name.
use Rattle.std.specs.Prelude.{All, IsSorted, List, None, Option, Some, ℕ, ◌<◌, ◌≡◌}
use Rattle.std.specs.List.{range_with_len}
use Rattle.heap_graph.specs.ObjectGraph.{ObjectGraph, object_count}
use Rattle.heap_graph.specs.RowNumbers.{row_count}
use Rattle.label_flow.specs.Flow.{Flow, set_of}
use Rattle.label_sets.specs.Sets.{Store, labels_of}
use Rattle.held_table.specs.Joints.{AreJoints, IsDefined, IsUsed}
use Rattle.held_table.specs.Tally.{IsTally, compare}
use Rattle.held_table.specs.declared.line.Joint.{Joint}
use Rattle.held_table.specs.declared.line.Line.{Line}

-- both have the same labels, or both have no set
abbrev pub HaveSameLabels : Store → Option ℕ → Option ℕ → Type 0
HaveSameLabels store None None = Unit {0}
HaveSameLabels store None (Some b) = ⊥
HaveSameLabels store (Some a) None = ⊥
HaveSameLabels store (Some a) (Some b) = labels_of store a ≡ labels_of store b

-- Each object is shown under a set with exactly the labels of its own, if it has one. The lines count the objects under
-- these sets, their rows and their remainders.
pub record IsTable (g : ObjectGraph) (flow : Flow) (joints : List Joint) (lines : List Line) : Type 0 where
  pub shown : ℕ → Option ℕ
  pub shown_are : (o : ℕ) → HaveSameLabels flow.store (set_of flow o) (shown o)
  pub tally : IsTally g shown (range_with_len 0 (object_count g)) lines
  pub in_order : IsSorted compare lines
  pub joints_are : AreJoints flow.store joints
  pub defined : All (λ l. IsDefined flow.store joints l.set) lines
  pub needed : All (λ j. IsUsed lines joints j.set) joints
  pub rows_within : All (λ l. l.row < row_count g) lines
