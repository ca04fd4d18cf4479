-- The remaining identifiers are those of the call, since going up a class returns none.
use Rattle.std.proofs.Common.{length}
use Rattle.heap_graph.proofs.FieldsLeft.{IsLeft}
use Rattle.heap_graph.proofs.object_ids.field_ids.FieldIdsIterator.next.Given as goal

abbrev pub invariant-loop-place : goal.invariant-loop-place
invariant-loop-place g l =
    let f = l.self-inside in
    let o = f.objects.now in
    IsLeft o.view.id_size f.plan.now.classes.items f.plan.now.places.items o.fates.items f.places.now f.own f.values.now
    f.up.0 l.fn.self

abbrev pub decreases-loop-place : goal.decreases-loop-place
decreases-loop-place g l = length l.self-inside.up.0
