-- A heap list whose objects are at places of the bytes.
use Rattle.std.specs.Prelude.{List, map, ℕ, ◌≡◌}
use Rattle.hprof_grammar.specs.SubRecord.{SubRecord}
use Rattle.hprof_grammar.specs.Standing.{Sight, StandInTurn, Stands}
use Rattle.hprof_grammar.specs.Dump.{id_of}
use Rattle.heap_graph.specs.declared.objects.Objects.{Objects}
use Rattle.hprof_grammar.specs.Places.{IsDumpOf, Places}
use Rattle.heap_graph.specs.Heap.{heap_of, objects}

-- the objects of the heap list are at `places`, and have the identifiers `ids`
pub record AreObjects (v : Sight) (places ids : List ℕ) (heap : List SubRecord) : Type 0 where
  pub stand : StandInTurn (Stands v) places (objects heap)
  pub ids_are : ids ≡ map id_of (objects heap)

abbrev pub AreOf : {A : Type 0} → Objects A → List SubRecord → Type 0
AreOf o heap = AreObjects o.view o.places.items o.index heap

-- the objects were read at the places of the dump that `bytes` spell
pub record IsReadFrom {A : Type 0} (o : Objects A) (bytes : List ℕ) (dump : Places) : Type 0 where
  pub bytes_are : o.view.bytes ≡ bytes
  pub size_is : o.view.id_size ≡ dump.id_size
  pub places_are : o.places.items ≡ dump.objects
  pub are : (is : IsDumpOf bytes dump) → AreOf o (heap_of is.records)

-- `places` are those of the objects of the dump that `bytes` spell, and `id_size` is the size of its identifiers
pub record ArePlacesOf (bytes : List ℕ) (id_size : ℕ) (places : List ℕ) (dump : Places) : Type 0 where
  pub is : IsDumpOf bytes dump
  pub size_is : id_size ≡ dump.id_size
  pub places_are : places ≡ dump.objects
