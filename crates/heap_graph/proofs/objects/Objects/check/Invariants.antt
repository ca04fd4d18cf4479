-- The results are those of the parts. No object of the parts so far breaks a rule, and the first repeat is none of
-- these objects.
use Rattle.heap_graph.proofs.Words.{AreFine, AreOf, HaveFatesOf, List, SubRecord, length, min, ℕ, ◌*◌, ◌≤◌}
use Rattle.heap_graph.specs.working.TestedParts.{AreOfParts}
use Rattle.heap_graph.proofs.objects.Objects.check.Given as goal

abbrev pub invariant-loop-answer : goal.invariant-loop-answer
invariant-loop-answer g l = (size : ℕ) × AreOfParts l.self l.repeat size l.answer-items × record {
  fine : (heap : List SubRecord) → AreOf l.self heap → HaveFatesOf l.self heap
      → AreFine l.self.view.id_size heap (min (l.answer-index * size) (length l.self.places.items));
  first : min (l.answer-index * size) (length l.self.places.items) ≤ l.repeat;
}
