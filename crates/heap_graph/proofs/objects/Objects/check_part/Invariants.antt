-- No object so far breaks a rule, and the first repeat is none of these objects.
use Rattle.heap_graph.proofs.Words.{AreFine, AreOf, HaveFatesOf, List, SubRecord, ◌≤◌}
use Rattle.heap_graph.proofs.objects.Objects.check_part.Given as goal

abbrev pub invariant-loop-number : goal.invariant-loop-number
invariant-loop-number g l = record {
  fine : (heap : List SubRecord) → AreOf l.self heap → HaveFatesOf l.self heap
      → AreFine l.self.view.id_size heap l.start → AreFine l.self.view.id_size heap l.number;
  first : l.number ≤ l.repeat;
}
