-- Each class up adds the number of its places, and all are counted if no class is above.
use Rattle.std.proofs.Common.{arith}
use Rattle.heap_graph.proofs.FieldsLeft.{IsLeft, all_counted, counted_fits, fewer_steps, more_counted, next_counted}
use Rattle.heap_graph.proofs.FieldsLeft.{none_counted}
use Rattle.heap_graph.proofs.object_ids.field_ids.FieldIds.len.Goals as goal

pub loop-above-init : goal.loop-above-init
loop-above-init g c =
    let f = c.self.inside in
    let o = f.objects.now in
    let all : IsLeft o.view.id_size f.plan.now.classes.items f.plan.now.places.items o.fates.items f.places.now f.own
    f.values.now f.up.0 c.args.self.now =
    record { stand = c.self.invariant.stand; above = c.self.invariant.above; left = c.self.view_is } in
    none_counted _ _ _ _ f.next all f.up.1

pub id_places-requires-clause-below : goal.id_places-requires-clause-below
id_places-requires-clause-below g c =
    (next_counted _ _ _ _ c.loop-above.invariant c.in-Some.is).fields.below

pub id_places-requires-clause-within : goal.id_places-requires-clause-within
id_places-requires-clause-within g c = (next_counted _ _ _ _ c.loop-above.invariant c.in-Some.is).fields.has

pub overflow_add-ids : goal.overflow_add-ids
overflow_add-ids g c =
    let fits = counted_fits _ _ _ _ c.loop-above.invariant c.in-Some.is c.id_places.result.now c.id_places.ensures in
    omega (arith, fits, c.self.told)

pub next_of-above-requires : goal.next_of-above-requires
next_of-above-requires g c = (next_counted _ _ _ _ c.loop-above.invariant c.in-Some.is).fields.has_fate

pub loop-above-smaller : goal.loop-above-smaller
loop-above-smaller g c = fewer_steps _ _ _ _ c.loop-above.invariant c.in-Some.is _ c.next_of-above.ensures

pub loop-above-preserved : goal.loop-above-preserved
loop-above-preserved g c =
    more_counted _ _ _ _ c.loop-above.invariant c.in-Some.is _ _ c.id_places.ensures c.next_of-above.ensures

pub returns : goal.returns
returns g c = all_counted _ _ _ _ _ c.loop-above.invariant c.in_default.not-Some
