-- The layout begins at the first class, so all its identifiers are in the classes from there up. None was read yet.
use Rattle.std.proofs.Common.{rules}
use Rattle.heap_graph.proofs.FieldsLeft.{nothing_stands}
use Rattle.heap_graph.proofs.FieldsUpLaws.{have_fields, ids_up_are, up_from}
use Rattle.heap_graph.proofs.object_ids.field_ids.FieldIds.new.Goals as goal

pub invariant_of-result : goal.invariant_of-result
invariant_of-result g c =
    let o = c.args.objects.now in
    let heap = c.requires.heap in
    (up_from o.view heap.1 o.classes.table.entries o.fates.items heap.3 heap.2 c.args.first heap.5.begins, tt)

pub invariant_of-result-2 : goal.invariant_of-result-2
invariant_of-result-2 g c =
    let o = c.args.objects.now in
    let p = c.args.plan.now in
    let heap = c.requires.heap in
    record {
      stand = nothing_stands o.view.id_size c.args.values.now;
      above = have_fields o.view heap.1 o.classes.table.entries o.fates.items heap.3 heap.0 o.index p.classes.items
          p.places.items heap.4 _ heap.2 c.args.values.now c.args.first c.requires.size heap.5.begins heap.5.room
          (search rules);
    }

pub returns : goal.returns
returns g c = λ skips heap fields told plan from.
    let o = c.args.objects.now in
    let p = c.args.plan.now in
    ids_up_are o.view heap o.classes.table.entries o.fates.items told skips o.index p.classes.items p.places.items plan
    _ fields c.args.values.now c.args.first from.begins (search rules)
