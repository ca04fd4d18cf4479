-- The identifiers counted so far and those of the classes above are all remaining ones.
use Rattle.std.proofs.Common.{length}
use Rattle.heap_graph.proofs.FieldsLeft.{IsCounted, steps_up}
use Rattle.heap_graph.proofs.object_ids.field_ids.FieldIds.len.Given as goal

abbrev pub invariant-loop-above : goal.invariant-loop-above
invariant-loop-above g l =
    let f = l.self-inside in
    let o = f.objects.now in
    IsCounted o.view.id_size f.plan.now.classes.items f.plan.now.places.items o.fates.items (length f.up.0)
    (length f.values.now) (length l.self) l.above l.ids

abbrev pub decreases-loop-above : goal.decreases-loop-above
decreases-loop-above g l = steps_up l.self-inside.objects.now.fates.items (length l.self-inside.up.0) l.above
