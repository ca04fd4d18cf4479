-- The next object is at the next place, as in the gathering of parts, so at the end the index has all identifiers.
use Rattle.heap_graph.proofs.Words.{arith, refl}
use Rattle.heap_graph.proofs.Gathering.{all_indexed, one_more}
use Rattle.heap_graph.proofs.Standings.{id_there, stands_there}
use Rattle.heap_graph.proofs.objects.unordered.filled.Goals as goal

pub object_id-id-requires : goal.object_id-id-requires
object_id-id-requires g c =
    let stand = c.requires.may.stand in
    let it = stands_there _ _ stand.0 _ stand.1 (omega (arith, c.loop-number-test.true)) in
    (it.object, it.stands)

pub loop-number-preserved : goal.loop-number-preserved
loop-number-preserved g c =
    one_more c.args.view.now c.args.places.now c.args.bits
    (record { ids = c.loop-number.ids; class_dumps = c.loop-number.class_dumps }) _ 0 c.loop-number.number _
    c.loop-number.invariant (c.if-not-push.ensures.ids refl) c.push.ensures.shift c.push.ensures.low
    (id_there c.args.view.now c.args.places.now c.loop-number.number c.object_id-id.result
    (omega (arith, c.loop-number-test.true)) c.object_id-id.ensures)
    c.in_ok-note_class.ensures

pub returns-in-Some : goal.returns-in-Some
returns-in-Some g c = λ heap stand.
    all_indexed c.args.view.now c.args.places.now c.args.bits
    (record { ids = c.loop-number.ids; class_dumps = c.loop-number.class_dumps }) _ c.loop-number.number
    c.loop-number.invariant (omega (arith, c.loop-number-test.false, c.loop-number.auto.number-end))
    c.in-Some.ensures refl heap stand
