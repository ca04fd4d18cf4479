-- The objects that identifiers name, from the identifiers of all objects in their order.
use Rattle.std.specs.Prelude.{Bool, List, None, Option, Some, [], count_by, filter_map, option_to_list, slice_index, ℕ}
use Rattle.std.specs.Prelude.{◌++◌, ◌∷◌, ◌≡◌}
pub use Rattle.heap_graph.specs.Walks.{is_unresolved_in, step_in, target_in}

-- the identifier of the object, or no identifier if there is no object
abbrev pub known_ids : List ℕ → Option ℕ → List ℕ
known_ids all None = []
known_ids all (Some o) = slice_index all o ∷ []

-- the object is the one that its identifier names
abbrev pub IsNamed : List ℕ → ℕ → Type 0
IsNamed all o = target_in all (slice_index all o) ≡ Some o

-- the object that `id` names was appended, if there is one; `unresolved` says whether `id` is not 0 and names none
pub record ResolvesOne (all : List ℕ) (id : ℕ) (old new : List ℕ) (unresolved : Bool) : Type 0 where
  pub appended : new ≡ old ++ option_to_list (target_in all id)
  pub unresolved_is : unresolved ≡ is_unresolved_in all id

-- the objects that `ids` name were appended; `unresolved` is the number of those that are not 0 and name none
pub record Resolves (all ids old new : List ℕ) (unresolved : ℕ) : Type 0 where
  pub appended : new ≡ old ++ filter_map (target_in all) ids
  pub counted : unresolved ≡ count_by (is_unresolved_in all) ids
