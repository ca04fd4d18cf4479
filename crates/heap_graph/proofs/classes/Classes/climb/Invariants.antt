-- What was known is known, and the climb from the first class has reached this one.
use Rattle.heap_graph.proofs.Words.{AreClassesOf, DoesStay, IsClimbOf, List, SubRecord, count_by, is_unknown}
use Rattle.heap_graph.proofs.classes.Classes.climb.Given as goal

abbrev pub invariant-up : goal.invariant-up
invariant-up g l = record {
  stays : DoesStay l.initial.known l.known;
  climbs : (heap : List SubRecord) → AreClassesOf l.self heap
      → IsClimbOf l.self heap l.fn.first l.initial.path.items l.initial.known l.fn.first
      → IsClimbOf l.self heap l.fn.first l.path.items l.known l.at;
}

abbrev pub decreases-up : goal.decreases-up
decreases-up g l = count_by is_unknown l.known
