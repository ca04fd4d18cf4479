-- The next object is at the next place: its identifier follows those so far, and it is noted if it is a class dump.
use Rattle.heap_graph.proofs.Words.{HasGathered, arith, subst, ℕ}
use Rattle.heap_graph.proofs.Gathering.{nothing, one_more}
use Rattle.heap_graph.proofs.Standings.{id_there}
use Rattle.heap_graph.proofs.objects.gathering.gather_part.Goals as goal

pub loop-number-init : goal.loop-number-init
loop-number-init g c = nothing c.args.view.now c.args.places.now c.args.bits c.new-gathered.result c.args.start
    c.new-gathered.ensures.ids c.new-gathered.ensures.class_dumps c.new-gathered.ensures.shift
    c.new-gathered.ensures.low

pub loop-number-preserved : goal.loop-number-preserved
loop-number-preserved g c =
    one_more _ _ _ _ _ c.args.start c.loop-number.number _ c.loop-number.invariant c.in_ok-push.ensures.ids
    c.push.ensures.shift c.push.ensures.low
    (id_there c.args.view.now c.args.places.now c.loop-number.number c.object_id-id.result
    (omega (arith, c.loop-number-test.true, c.requires.within)) c.object_id-id.ensures)
    c.in_ok-note_class.ensures

pub returns : goal.returns
returns g c =
    subst (λ (n : ℕ). HasGathered c.args.view.now c.args.places.now c.args.bits c.args.start n c.loop-number.gathered)
    (omega (arith, c.loop-number-test.false, c.loop-number.auto.number-end)) c.loop-number.invariant
