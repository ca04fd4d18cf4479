-- The remaining identifiers of those that an object holds.
use Rattle.std.specs.Prelude.{List, [], ℕ, ◌∷◌}
use Rattle.heap_graph.specs.declared.object_ids.Rest.{Rest}
use Rattle.heap_graph.specs.declared.object_ids.Rest.TheVariants as rests

abbrev pub rest_ids : {A : Type 0} → Rest A → List ℕ
rest_ids rests.Nothing = []
rest_ids (rests.OfClass ids) = ids
rest_ids (rests.InstanceWithClass class ids) = class ∷ ids
rest_ids (rests.Fields ids) = ids
rest_ids (rests.ArrayWithClass class ids) = class ∷ ids
rest_ids (rests.Elements ids) = ids
