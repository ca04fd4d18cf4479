-- What was known is known, and so is each class that left the path. `fate` is that of what is above the path.
use Rattle.heap_graph.proofs.Words.{AreClassesOf, AreFatesOf, Contains, DoesStay, IsKnown, List, SubRecord, length, ℕ}
use Rattle.heap_graph.proofs.Words.{◌⊎◌}
use Rattle.heap_graph.specs.working.Chains.{IsTopOf}
use Rattle.heap_graph.proofs.classes.Classes.unwind.Given as goal

abbrev pub invariant-loop-number : goal.invariant-loop-number
invariant-loop-number g l = record {
  stays : DoesStay l.initial.known l.known;
  settled : (k : ℕ) → Contains l.initial.path.items k → Contains l.path.items k ⊎ IsKnown l.known k;
  fates : (heap : List SubRecord) → AreClassesOf l.self heap
      → AreFatesOf l.self heap l.initial.path.items l.initial.known
      → IsTopOf l.self heap l.initial.path.items l.fn.above → AreFatesOf l.self heap l.path.items l.known;
  top : (heap : List SubRecord) → AreClassesOf l.self heap
      → AreFatesOf l.self heap l.initial.path.items l.initial.known
      → IsTopOf l.self heap l.initial.path.items l.fn.above → IsTopOf l.self heap l.path.items l.fate;
}

abbrev pub decreases-loop-number : goal.decreases-loop-number
decreases-loop-number g l = length l.path.items
