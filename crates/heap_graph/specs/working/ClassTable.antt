-- What the table of classes says. A class's number is the position of its identifier in the table.
use Rattle.std.specs.Prelude.{Contains, List, Some, [], filter_map, length, map, slice_get, slice_index_or, take, ℕ}
use Rattle.std.specs.Prelude.{◌++◌, ◌<◌, ◌^◌, ◌∷◌, ◌≡◌, ◌≤◌}
use Rattle.hprof_grammar.specs.Standing.{Sight, Stands}
use Rattle.hprof_grammar.specs.SubRecord.{Class, SubRecord}
use Rattle.hprof_grammar.specs.SubRecord.SubRecord.{class_dump}
use Rattle.heap_graph.specs.Heap.{as_class, class_dumps, class_named, number_named, objects}
use Rattle.heap_graph.specs.LinkRules.{IsLinked}
use Rattle.heap_graph.specs.working.IdPlaces.{size_together}
use Rattle.heap_graph.specs.declared.classes.ClassPlace.{ClassPlace}
pub use Rattle.heap_graph.specs.working.ClassList.{TableEntry, ids_of}
use Rattle.heap_graph.specs.declared.classes.Classes.{Classes}

-- the entry has the identifier and the place of a class, and the size of the values of the class's fields
pub record IsTableEntry (v : Sight) (heap : List SubRecord) (e : TableEntry) : Type 0 where
  pub class : Class
  pub named : class_named heap e.0 ≡ Some class
  pub stands : Stands v e.1.place (class_dump class)
  pub size_is : e.1.size ≡ size_together v.id_size class.members
  pub few_bytes : e.1.size < 2 ^ 32

-- each entry is a class, and each class that an identifier names has an entry
pub record AreClasses (v : Sight) (heap : List SubRecord) (entries : List TableEntry) : Type 0 where
  pub low : 1 ≤ v.id_size
  pub each : (k : ℕ) (e : TableEntry) → slice_get entries k ≡ Some e → IsTableEntry v heap e
  pub complete : (id : ℕ) (c : Class) → class_named heap id ≡ Some c → Contains (ids_of entries) id
  -- in a linked heap list the entries are in the order of the class dumps
  pub in_order : IsLinked v.id_size heap → ids_of entries ≡ map (λ c. c.object) (class_dumps heap)

abbrev pub AreClassesOf : {A : Type 0} → Classes A → List SubRecord → Type 0
AreClassesOf o heap = AreClasses o.view heap o.table.entries

-- the entries are the classes among the first `n` objects
pub record AreClassesAmong (v : Sight) (heap : List SubRecord) (n : ℕ) (entries : List TableEntry) : Type 0 where
  pub each : (k : ℕ) (e : TableEntry) → slice_get entries k ≡ Some e → IsTableEntry v heap e
  pub complete : (id number : ℕ) (c : Class) → class_named heap id ≡ Some c → number_named heap id ≡ Some number
      → number < n → Contains (ids_of entries) id
  pub only : (id : ℕ) → Contains (ids_of entries) id → (number : ℕ) × (number_named heap id ≡ Some number)
      × (number < n)
  pub in_order : IsLinked v.id_size heap
      → ids_of entries ≡ map (λ c. c.object) (filter_map as_class (take n (objects heap)))
  pub few : length entries ≤ n

-- class `c` was added after the others, with the identifier `id` and the place `place`
pub record AddsEntry (s : ℕ) (c : Class) (id place : ℕ) (old new : List TableEntry) : Type 0 where
  pub entry : ClassPlace
  pub place_is : entry.place ≡ place
  pub size_is : entry.size ≡ size_together s c.members
  pub few_bytes : entry.size < 2 ^ 32
  pub entries_are : new ≡ old ++ (id, entry) ∷ []

-- ---- the entry with a number

abbrev pub entry_at : List TableEntry → ℕ → ClassPlace
entry_at entries k = (slice_index_or entries k (0, record { place = 0; size = 0 })).1
