-- The identifiers that an object holds, and its references: the objects that they name.
use Rattle.std.specs.Prelude.{Bool, List, None, Option, Some, [], false, filter, filter_map, if◌then◌else◌, is_none}
use Rattle.std.specs.Prelude.{length, map, slice_get, ℕ, ◌++◌, ◌==◌, ◌∷◌, ◌≡◌}
use Rattle.byteorder.specs.Endian.{big_number}
use Rattle.heap_graph.specs.Fields.{declared_fields, field_ids, object_type}
use Rattle.heap_graph.specs.Layout.{IsChain}
use Rattle.heap_graph.specs.Heap.{number_named, objects}
use Rattle.hprof_grammar.specs.SubRecord.{Class, Constant, Instance, Member, Static, SubRecord}
use Rattle.hprof_grammar.specs.SubRecord.SubRecord.{class_dump, instance_dump, object_array_dump}

-- the values of type 2 among the constant pool entries, and among the static fields
abbrev pub constant_ids : ℕ → List Constant → List ℕ
constant_ids s constants = map (λ c. big_number s c.value) (filter (λ c. c.type == object_type) constants)

abbrev pub static_ids : ℕ → List Static → List ℕ
static_ids s statics = map (λ f. big_number s f.value) (filter (λ f. f.type == object_type) statics)

-- Superclass, loader, signers and protection domain, then the constant pool, then the static fields. The two reserved
-- identifiers are not followed.
abbrev pub class_ids : ℕ → Class → List ℕ
class_ids s c = c.super ∷ c.loader ∷ c.signers ∷ c.domain ∷ constant_ids s c.constants ++ static_ids s c.statics

-- The identifier of the class, then those in the fields of type 2 that are not skipped, in the order of the layout.
abbrev pub instance_ids : (Class → Member → Bool) → ℕ → Instance → List Class → List ℕ
instance_ids skips s i chain = i.class ∷ field_ids skips s (declared_fields chain) i.values

-- The identifiers that an object holds, in order: an object array refers to its array class and then to its elements, a
-- primitive array to nothing.
abbrev pub AreIdsIn : (Class → Member → Bool) → ℕ → List SubRecord → SubRecord → List ℕ → Type 0
AreIdsIn skips s heap (class_dump c) ids = ids ≡ class_ids s c
AreIdsIn skips s heap (instance_dump i) ids = (chain : List Class) × IsChain heap i.class chain
    × (ids ≡ instance_ids skips s i chain)
AreIdsIn skips s heap (object_array_dump a) ids = ids ≡ a.class ∷ a.elements
AreIdsIn skips s heap o ids = ids ≡ []

-- a list of identifiers for each object
pub record AreIdLists (skips : Class → Member → Bool) (s : ℕ) (heap : List SubRecord)
    (lists : List (List ℕ)) : Type 0 where
  pub one_each : length lists ≡ length (objects heap)
  pub each : (n : ℕ) (o : SubRecord) (ids : List ℕ) → slice_get (objects heap) n ≡ Some o
      → slice_get lists n ≡ Some ids → AreIdsIn skips s heap o ids

-- the object that `id` names: `None` for 0, and for an identifier that names no object
abbrev pub target_of : List SubRecord → ℕ → Option ℕ
target_of heap id = if id == 0 then None else number_named heap id

-- the objects that the identifiers name, in order, with repeats
abbrev pub targets : List SubRecord → List ℕ → List ℕ
targets heap ids = filter_map (target_of heap) ids

-- an identifier other than 0 that names no object
abbrev pub is_unresolved : List SubRecord → ℕ → Bool
is_unresolved heap id = if id == 0 then false else is_none (number_named heap id)
