-- The next object is at the next place, as in the gathering of parts, so at the end the index has all identifiers.
use Rattle.heap_graph.proofs.Words.{arith, refl}
use Rattle.heap_graph.proofs.Gathering.{all_indexed, one_more}
use Rattle.heap_graph.proofs.Standings.{id_there}
use Rattle.heap_graph.proofs.objects.unordered.sorted.Goals as goal

pub loop-number-preserved : goal.loop-number-preserved
loop-number-preserved g c =
    one_more c.args.view.now c.args.places.now (record { shift = 0; low = 0 })
    (record { ids = record { ids = c.loop-number.ids; shift = 0; low = 0 }; class_dumps = c.loop-number.class_dumps })
    _ 0 c.loop-number.number _ c.loop-number.invariant c.in_ok-push.ensures refl refl
    (id_there c.args.view.now c.args.places.now c.loop-number.number c.object_id.result
    (omega (arith, c.loop-number-test.true)) c.object_id.ensures)
    c.in_ok-note_class.ensures

pub returns : goal.returns
returns g c = λ heap stand.
    all_indexed c.args.view.now c.args.places.now (record { shift = 0; low = 0 })
    (record { ids = record { ids = c.loop-number.ids; shift = 0; low = 0 }; class_dumps = c.loop-number.class_dumps })
    _ c.loop-number.number c.loop-number.invariant
    (omega (arith, c.loop-number-test.false, c.loop-number.auto.number-end)) c.in_ok-index.ensures refl heap stand
