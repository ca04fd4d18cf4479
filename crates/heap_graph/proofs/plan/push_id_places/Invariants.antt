-- The places so far and those of the remaining fields are the places of all fields.
use Rattle.heap_graph.proofs.Words.{Bool, Member, id_places, length, size_together, ◌*◌, ◌++◌, ◌+◌, ◌≡◌, ◌≤◌}
use Rattle.heap_graph.specs.working.ClassSkips.{IsSkipTest}
use Rattle.heap_graph.proofs.plan.push_id_places.Given as goal

abbrev pub invariant-loop-member : goal.invariant-loop-member
invariant-loop-member g l = record {
  places : (test : Member → Bool) → IsSkipTest l.skips test
      → l.places.items ++ id_places test l.view.id_size l.size l.member-iterator
      ≡ l.initial.places.items ++ id_places test l.view.id_size 0 l.fn.members;
  size : l.size + size_together l.view.id_size l.member-iterator ≡ size_together l.view.id_size l.fn.members;
  small : l.size + 255 * length l.member-iterator ≤ 255 * length l.fn.members;
}
