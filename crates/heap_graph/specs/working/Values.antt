-- Values with their type codes: the identifiers among them.
use Rattle.std.specs.Prelude.{List, [], flat_map, if◌then◌else◌, length, ℕ, ◌<◌, ◌==◌, ◌^◌, ◌≡◌, ◌≤◌, ◌∷◌}
use Rattle.std.specs.List.{AllByRecursion}
use Rattle.byteorder.specs.Endian.{big_number}
use Rattle.hprof_grammar.specs.Series.{LabelledValue}
use Rattle.heap_graph.specs.Fields.{object_type}

-- a value of the type of identifiers has a size that identifiers can have
abbrev pub IsIdValue : ℕ → List ℕ → Type 0
IsIdValue type value = type ≡ object_type → (1 ≤ length value) × (length value ≤ 8)

abbrev pub value_ids : ℕ → List ℕ → List ℕ
value_ids type value = if type == object_type then big_number (length value) value ∷ [] else []

abbrev pub values_ids : List LabelledValue → List ℕ
values_ids values = flat_map (λ v. value_ids v.type v.value) values

abbrev pub AreIdValues : List LabelledValue → Type 0
AreIdValues values = AllByRecursion (λ v. IsIdValue v.type v.value) values

-- the values of the constants or of the static fields of a class, fewer than 2^16
pub record AreClassValues (values : List LabelledValue) : Type 0 where
  pub few : length values < 2 ^ 16
  pub fit : AreIdValues values
