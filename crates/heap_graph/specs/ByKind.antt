-- A visit that is split by where the identifiers of the object are.
use Rattle.std.specs.Prelude.{Option, option_to_list, ℕ, ◌+◌, ◌++◌, ◌≡◌}
use Rattle.heap_graph.specs.declared.visit.ByKind.{ByKind}
use Rattle.heap_graph.specs.declared.visit.ByKind.TheVariants as kinds
use Rattle.heap_graph.specs.Walks.{Visited, references_left, unresolved_left}

-- the visit `whole` is split into `class`, the object's class if it is known, and `rest`, a visit of the identifiers
-- after the class
pub record IsBehind (whole : Visited) (class : Option ℕ) (rest : Visited) : Type 0 where
  pub row_is : rest.row ≡ whole.row
  pub bytes_is : rest.bytes ≡ whole.bytes
  pub references_are : references_left whole ≡ option_to_list class ++ references_left rest
  pub unresolved_is : rest.unresolved + unresolved_left rest.left ≡ whole.unresolved + unresolved_left whole.left

abbrev pub AreByKind : {A : Type 0} → Visited → ByKind A → Type 0
AreByKind whole (kinds.Nothing class rest) = IsBehind whole class rest
AreByKind whole (kinds.Fields class rest) = IsBehind whole class rest
AreByKind whole (kinds.Elements class rest) = IsBehind whole class rest
AreByKind whole kinds.Any = Unit {0}
