-- The next sub-record is at the next place, so its identifier follows those so far.
use Rattle.heap_graph.proofs.Words.{List, SubRecord, ap, arith, get_or, map, slice_get-get_or, take_all, ℕ, ◌∙◌}
use Rattle.hprof_grammar.specs.Dump.{id_of}
use Rattle.heap_graph.proofs.Adding.{keys_more}
use Rattle.heap_graph.proofs.objects.read_ids.Goals as goal

pub loop-at-preserved : goal.loop-at-preserved
loop-at-preserved g c = λ subs stand.
    let n : ℕ = c.loop-at.at-index in
    let it = stand.each n (get_or c.args.places.now n 0) (slice_get-get_or c.args.places.now n 0 c.loop-at-test.true) in
    keys_more id_of c.in_ok-push.ensures.items _ _ it.0 it.1 (c.object_id.ensures it.0 it.2)
    (c.loop-at.invariant subs stand)

pub loop-at-init : goal.loop-at-init
loop-at-init g c = λ subs stand. c.new-ids.ensures.items

pub object_id-requires : goal.object_id-requires
object_id-requires g c =
    let (subs, stand) = c.requires in
    let n : ℕ = c.loop-at.at-index in
    let it = stand.each n (get_or c.args.places.now n 0) (slice_get-get_or c.args.places.now n 0 c.loop-at-test.true) in
    (it.0, it.2)

pub returns : goal.returns
returns g c = λ subs stand.
    c.loop-at.invariant subs stand
    ∙ ap (λ (xs : List SubRecord). map id_of xs)
    (take_all c.loop-at.at-index subs (omega (arith, stand.count, c.loop-at-test.false)))
