-- The identifier at the first remaining place is returned. If no place remains, the next class up brings its own.
use Rattle.std.proofs.Common.{rules}
use Rattle.heap_graph.proofs.FieldsLeft.{fewer_above, fewer_left, first_given, first_gone, first_read, first_room}
use Rattle.heap_graph.proofs.FieldsLeft.{has_next, next_left, none_left}
use Rattle.heap_graph.proofs.object_ids.field_ids.FieldIdsIterator.next.Goals as goal

pub identifier_at-requires : goal.identifier_at-requires
identifier_at-requires g c = record {
  room = first_room c.in-Some.left.now c.in-Some.place.now c.loop-place.invariant.stand c.in-Some.ensures.cases.0 _
      c.by_class.ensures.own;
}

pub invariant_of-self : goal.invariant_of-self
invariant_of-self g c =
    let f = c.loop-place.self-inside in
    let it = first_gone _ _ _ _ _ c.in-Some.left.now f.next c.in-Some.place.now c.loop-place.invariant
    c.in-Some.ensures.cases.0 f.up.1 (search rules) in
    record { stand = it.stand; above = it.above }

pub returns-in-Some-clause-steps : goal.returns-in-Some-clause-steps
returns-in-Some-clause-steps g c =
    let f = c.loop-place.self-inside in
    let left = c.in-Some.left.now in
    let place = c.in-Some.place.now in
    let e = c.in-Some.ensures.cases.0 in
    first_given _ _ _ _ _ left f.next place c.loop-place.invariant e f.up.1 (search rules) c.identifier_at.result
    (first_read left place c.loop-place.invariant.stand e _ c.identifier_at.result c.by_class.ensures.own
    c.identifier_at.ensures)

pub returns-in-Some-clause-goes : goal.returns-in-Some-clause-goes
returns-in-Some-clause-goes g c =
    record {
      on = λ x. (tt, tt, fewer_left _ _ c.identifier_at.result (returns-in-Some-clause-steps g c));
      keeps = tt;
      rests = λ x. tt;
    }

pub returns-in_err-number-clause-steps : goal.returns-in_err-number-clause-steps
returns-in_err-number-clause-steps g c =
    rw c.from_residual.ensures (none_left _ _ _ _ c.loop-place.invariant c.in_default.ensures.cases _
    c.in_err-number.was c.loop-place.self-inside.up.1)

pub bytes_of-requires : goal.bytes_of-requires
bytes_of-requires g c = (has_next _ _ _ _ _ _ _ _ c.in_ok-number.was c.loop-place.self-inside.up.1
    c.loop-place.invariant.above).fields.below

pub id_places-self-inside-requires-clause-below : goal.id_places-self-inside-requires-clause-below
id_places-self-inside-requires-clause-below g c =
    (has_next _ _ _ _ _ _ _ _ c.in_ok-number.was c.loop-place.self-inside.up.1
    c.loop-place.invariant.above).fields.below

pub id_places-self-inside-requires-clause-within :
    goal.id_places-self-inside-requires-clause-within
id_places-self-inside-requires-clause-within g c =
    (has_next _ _ _ _ _ _ _ _ c.in_ok-number.was c.loop-place.self-inside.up.1 c.loop-place.invariant.above).fields.has

pub next_of-self-inside-requires : goal.next_of-self-inside-requires
next_of-self-inside-requires g c =
    (has_next _ _ _ _ _ _ _ _ c.in_ok-number.was c.loop-place.self-inside.up.1
    c.loop-place.invariant.above).fields.has_fate

pub invariant_of-self-inside-in-loop-place : goal.invariant_of-self-inside-in-loop-place
invariant_of-self-inside-in-loop-place g c =
    let n = has_next _ _ _ _ _ _ _ _ c.in_ok-number.was c.loop-place.self-inside.up.1 c.loop-place.invariant.above in
    ((n.rest, rw c.next_of-self-inside.ensures n.up), tt)

pub loop-place-smaller : goal.loop-place-smaller
loop-place-smaller g c =
    let n = has_next _ _ _ _ _ _ _ _ c.in_ok-number.was c.loop-place.self-inside.up.1 c.loop-place.invariant.above in
    fewer_above _ _ _ _ _ _ n c.next_of-self-inside.ensures (search rules)

pub loop-place-preserved : goal.loop-place-preserved
loop-place-preserved g c =
    let n = has_next _ _ _ _ _ _ _ _ c.in_ok-number.was c.loop-place.self-inside.up.1 c.loop-place.invariant.above in
    next_left _ _ _ _ c.loop-place.invariant c.in_default.ensures.cases c.in_ok-number.number
    c.id_places-self-inside.result.now c.bytes_of.result c.by_class.result.1.now c.next_of-self-inside.result _ n
    c.id_places-self-inside.ensures c.bytes_of.ensures c.by_class.ensures.above c.next_of-self-inside.ensures
    (search rules)
