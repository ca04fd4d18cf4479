-- What is known while the references of linked objects are read.
use Rattle.std.specs.Prelude.{Bool, List, Option, Some, if◌then◌else◌, length, slice_get, ℕ, ◌^◌, ◌∷◌, ◌≡◌, ◌≤◌}
use Rattle.hprof_grammar.specs.SubRecord.{Class, Instance, Member, SubRecord}
use Rattle.hprof_grammar.specs.Dump.{limit}
use Rattle.hprof_grammar.specs.Standing.{Sight, Stands}
use Rattle.heap_graph.specs.declared.objects.Objects.{Objects}
use Rattle.heap_graph.specs.Fields.{declared_fields}
use Rattle.heap_graph.specs.Heap.{objects}
use Rattle.heap_graph.specs.Layout.{IsChain, layout_size}
use Rattle.heap_graph.specs.LinkRules.{IsLinked}
use Rattle.heap_graph.specs.working.PlacedObjects.{AreObjects}
use Rattle.heap_graph.specs.References.{AreIdsIn}
use Rattle.heap_graph.specs.working.Chains.{IsFirst}
use Rattle.heap_graph.specs.working.ClassTable.{ids_of}
use Rattle.heap_graph.specs.working.IdPlaces.{size_of_fields}

-- the objects are at `places` and are linked, identifiers have 1 to 8 bytes, and the dump has at most `limit` bytes
pub record AreLinked (v : Sight) (places ids : List ℕ) (heap : List SubRecord) : Type 0 where
  pub are : AreObjects v places ids heap
  pub low : 1 ≤ v.id_size
  pub high : v.id_size ≤ 8
  pub short : length v.bytes ≤ limit
  pub linked : IsLinked v.id_size heap

abbrev pub AreLinkedOf : {A : Type 0} → Objects A → List SubRecord → Type 0
AreLinkedOf o heap = AreLinked o.view o.places.items o.index heap

-- object `n` is `o`, and is at `at`
pub record IsObjectAt (v : Sight) (heap : List SubRecord) (n at : ℕ) (o : SubRecord) : Type 0 where
  pub is : slice_get (objects heap) n ≡ Some o
  pub stands : Stands v at o

-- the identifiers are those that object `o` holds, at most 2^33
pub record AreIdsOf (skips : Class → Member → Bool) (s : ℕ) (heap : List SubRecord) (o : SubRecord)
    (ids : List ℕ) : Type 0 where
  pub are : AreIdsIn skips s heap o ids
  pub few : length ids ≤ 2 ^ 33

-- all identifiers of an object: `class` and then `ids`, if the class is known apart from `ids`, else `ids`
abbrev pub with_class : Bool → ℕ → List ℕ → List ℕ
with_class class_is_known class ids = if class_is_known then class ∷ ids else ids

-- the first class that declares fields in the layout of the instance is `first`, and its values have the layout's size
pub record IsFirstOfInstance (s : ℕ) (heap : List SubRecord) (ids : List ℕ) (i : Instance)
    (first : Option ℕ) : Type 0 where
  pub chain : List Class
  pub is : IsChain heap i.class chain
  pub begins : IsFirst heap ids (declared_fields chain) first
  pub size_is : length i.values ≡ layout_size s chain

-- `fields` are those from class `first` up, and the values have at least as many bytes as the fields
pub record IsLayoutFrom {A : Type 0} (o : Objects A) (heap : List SubRecord) (fields : List (Class × Member))
    (first : Option ℕ) (values : List ℕ) : Type 0 where
  pub begins : IsFirst heap (ids_of o.classes.table.entries) fields first
  pub room : size_of_fields o.view.id_size fields ≤ length values
