-- A walk over the identifiers that an object holds, which yields the objects that they name.
use Rattle.std.specs.Prelude.{Bool, List, None, Option, Some, [], count_by, false, filter_map, if◌then◌else◌, is_none}
use Rattle.std.specs.Prelude.{map, position, ℕ, ◌+◌, ◌++◌, ◌==◌, ◌∷◌, ◌≡◌}
use Rattle.heap_graph.specs.declared.row.RowKey.{RowKey}

-- the object that `id` names among objects with the identifiers `all`: the first that bears `id`, or `None` if none
-- bears it, or if `id` is 0
abbrev pub target_in : List ℕ → ℕ → Option ℕ
target_in all id = if id == 0 then None else position (λ x. x == id) all

-- an identifier other than 0 that is not in `all`
abbrev pub is_unresolved_in : List ℕ → ℕ → Bool
is_unresolved_in all id = if id == 0 then false else is_none (position (λ x. x == id) all)

-- an identifier, and the object that it names: `None` for 0, and for an identifier that names no object
pub record Step : Type 0 where
  pub id : ℕ
  pub names : Option ℕ

-- the step of an identifier
abbrev pub step_in : List ℕ → ℕ → Step
step_in all id = record { id = id; names = target_in all id }

-- the identifiers of `steps`, and the objects that the identifiers name
abbrev pub ids_in : List Step → List ℕ
ids_in steps = map (λ s. s.id) steps

abbrev pub references_in : List Step → List ℕ
references_in steps = filter_map (λ s. s.names) steps

-- what the identifiers of `steps` name, with an item for each
abbrev pub named_in : List Step → List (Option ℕ)
named_in steps = map (λ s. s.names) steps

-- A walk passes the steps that name no object, up to the first that names one, and continues after it. If no step names
-- an object, the walk is at its end.
abbrev pub GoesPast : List Step → Option ℕ → List Step → Type 0
GoesPast old None new = (references_in old ≡ []) × (new ≡ [])
GoesPast old (Some o) new = (passed : List Step) × (id : ℕ) × (references_in passed ≡ [])
    × (old ≡ passed ++ record { id = id; names = Some o } ∷ new)

-- a step with an identifier other than 0 that names no object; and the number of such steps among `steps`
abbrev pub is_unresolved_step : Step → Bool
is_unresolved_step s = if s.id == 0 then false else is_none s.names

abbrev pub unresolved_left : List Step → ℕ
unresolved_left steps = count_by is_unresolved_step steps

-- A visit of an object: its row, its bytes, the steps that remain, and how many of the steps already passed have an
-- identifier other than 0 that names no object.
pub record Visited : Type 0 where
  pub row : RowKey
  pub bytes : ℕ
  pub unresolved : ℕ
  pub left : List Step

abbrev pub references_left : Visited → List ℕ
references_left v = references_in v.left

-- a visit advances: the passed and the remaining unresolved identifiers are together as many as before
pub record Advances (old : Visited) (object : Option ℕ) (new : Visited) : Type 0 where
  pub goes : GoesPast old.left object new.left
  pub row_is : new.row ≡ old.row
  pub bytes_is : new.bytes ≡ old.bytes
  pub unresolved_is : new.unresolved + unresolved_left new.left ≡ old.unresolved + unresolved_left old.left
