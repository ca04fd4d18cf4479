-- Objects that are tested part by part.
use Rattle.std.specs.Prelude.{IfErr, List, OnOk, Result, get_or, length, min, ℕ, ◌%◌, ◌*◌, ◌+◌, ◌-◌, ◌/◌, ◌<◌, ◌≡◌, ◌≤◌}
use Rattle.hprof_grammar.specs.SubRecord.{SubRecord}
use Rattle.heap_graph.specs.declared.objects.Objects.{Objects}
use Rattle.heap_graph.specs.declared.refusal.LinkFault.{LinkFault}
use Rattle.heap_graph.specs.working.ClassFates.{HaveFatesOf}
use Rattle.id_index.specs.Repeats.{IsFirstRepeat}
use Rattle.heap_graph.specs.working.PlacedObjects.{AreOf}
use Rattle.heap_graph.specs.working.RuleAnswers.{AreFine, IsFaultOf}

-- the part has no more places than there are objects from number `start` on
pub record MayTest {A : Type 0} (o : Objects A) (repeat start : ℕ) (part : List ℕ) : Type 0 where
  pub within : start + length part ≤ length o.places.items
  pub repeat_is : IsFirstRepeat o.index repeat
  pub heap : (heap : List SubRecord) × AreOf o heap × HaveFatesOf o heap

-- What the result of a part means, if no object before the part breaks a rule. `Ok`: no object of the part breaks a
-- rule, and number `repeat` is after the part; nothing is said if `repeat` is before the part. `Err`: the fault is the
-- first of all.
pub record HasTested {A : Type 0} (o : Objects A) (repeat start : ℕ) (part : List ℕ)
    (result : Result (Unit {0}) LinkFault) : Type 0 where
  pub first : OnOk result (start ≤ repeat → start + length part ≤ repeat)
  pub fine : OnOk result (start ≤ repeat → (heap : List SubRecord) → AreOf o heap → HaveFatesOf o heap
      → AreFine o.view.id_size heap start → AreFine o.view.id_size heap (start + length part))
  pub fault : IfErr result (λ f. (heap : List SubRecord) → AreOf o heap → HaveFatesOf o heap
      → AreFine o.view.id_size heap start → IsFaultOf o.view.id_size heap o.places.items f)

-- the result of the part with number `n`, where each part has `size` objects, and the last one perhaps fewer
pub record IsOfPart {A : Type 0} (o : Objects A) (repeat size n : ℕ)
    (result : Result (Unit {0}) LinkFault) : Type 0 where
  pub part : List ℕ
  pub within : n * size + length part ≤ length o.places.items
  pub long : length part ≡ min size (length o.places.items - n * size)
  pub tested : HasTested o repeat (n * size) part result

-- the results of all such parts of the objects
pub record AreOfParts {A : Type 0} (o : Objects A) (repeat size : ℕ)
    (results : List (Result (Unit {0}) LinkFault)) : Type 0 where
  pub some : 0 < size
  pub count : length results ≡ length o.places.items / size + min 1 (length o.places.items % size)
  pub each : (n : ℕ) (d : Result (Unit {0}) LinkFault) → n < length results
      → IsOfPart o repeat size n (get_or results n d)
