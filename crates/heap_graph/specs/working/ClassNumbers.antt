-- The class dumps among the objects, by their numbers.
use Rattle.std.specs.Prelude.{Contains, List, Some, length, slice_get, slice_index, ℕ, ◌<◌, ◌≡◌}
use Rattle.hprof_grammar.specs.Standing.{Sight}
use Rattle.hprof_grammar.specs.SubRecord.{Class, SubRecord}
use Rattle.hprof_grammar.specs.SubRecord.SubRecord.{class_dump}
use Rattle.heap_graph.specs.Heap.{objects}
use Rattle.heap_graph.specs.declared.objects.indexing.Indexed.{Indexed}
use Rattle.heap_graph.specs.working.PlacedObjects.{AreObjects}

-- object `number` is a class dump
abbrev pub IsClassNumber : List SubRecord → ℕ → Type 0
IsClassNumber os number = (c : Class) × (slice_get os number ≡ Some (class_dump c))

-- the numbers are those of the class dumps among the first `n` objects, in ascending order
pub record AreClassNumbers (os : List SubRecord) (n : ℕ) (numbers : List ℕ) : Type 0 where
  pub ascending : (j k : ℕ) → j < k → k < length numbers → slice_index numbers j < slice_index numbers k
  pub below : (k : ℕ) → k < length numbers → slice_index numbers k < n
  pub each : (k : ℕ) → k < length numbers → IsClassNumber os (slice_index numbers k)
  pub all : (number : ℕ) → number < n → IsClassNumber os number → Contains numbers number

-- the objects of the heap list, which are at `places`, are indexed, and the numbers of its class dumps are noted
pub record AreIndexed {A : Type 0} (v : Sight) (places : List ℕ) (heap : List SubRecord) (i : Indexed A) : Type 0 where
  pub are : AreObjects v places i.index heap
  pub class_dumps : AreClassNumbers (objects heap) (length places) i.class_dumps.items
