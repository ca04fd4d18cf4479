-- Before the next entry is looked at, those so far are answered.
use Rattle.heap_graph.proofs.Words.{List, SkipEntry, Some, ap, is_met, map, slice_get-get_or, sym, take_all, ◌∙◌}
use Rattle.heap_graph.proofs.MetLaws.{one_more_met}
use Rattle.heap_graph.proofs.skip.met.met_by.Goals as goal

pub loop-entry-preserved : goal.loop-entry-preserved
loop-entry-preserved g c = λ records by_id described.
    let entries = c.args.entries.now in
    let entry : SkipEntry = c.entry-item.result in
    one_more_met records entries c.loop-entry.entry-index entry c.in_ok-is_met.field-0 c.args.classes.now
    c.loop-entry.met.items c.push.new.self.items
    (slice_get-get_or entries c.loop-entry.entry-index entry c.loop-entry-test.true
    ∙ ap (λ (e : SkipEntry). Some e) (sym c.entry-item.is))
    described (c.in_ok-is_met.ensures records by_id) c.in_ok-push.ensures.items
    (c.loop-entry.invariant records by_id described)

pub returns : goal.returns
returns g c = λ records by_id described.
    c.loop-entry.invariant records by_id described
    ∙ ap (λ (es : List SkipEntry). map (is_met records) es)
    (take_all c.loop-entry.entry-index c.args.entries.now c.loop-entry-test.false)
