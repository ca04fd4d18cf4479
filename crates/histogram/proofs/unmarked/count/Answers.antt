-- One more object is the next of the list.
use Rattle.std.proofs.Common.{[], ◌+◌, ◌∷◌, drop, slice_index}
use Rattle.std.proofs.lemmas.List.{drop_more}
use Rattle.histogram.proofs.UnmarkedLaws.{counted_more, more_add_up}
use Rattle.histogram.proofs.unmarked.count.Goals as goal

pub and-left-requires : goal.and-left-requires
and-left-requires g c =
    let numbers = c.args.numbers.now in
    let at = c.loop-object.object-index in
    more_add_up c.args.graph.now numbers (drop at numbers) (slice_index numbers at ∷ []) (drop (at + 1) numbers)
    c.loop-object.left c.of.result c.loop-object.invariant (drop_more numbers at 0 c.loop-object-test.true) c.of.ensures
    c.len-objects.ensures.whole c.requires

pub loop-object-preserved : goal.loop-object-preserved
loop-object-preserved g c =
    let numbers = c.args.numbers.now in
    let at = c.loop-object.object-index in
    counted_more c.args.graph.now numbers (drop at numbers) (slice_index numbers at ∷ []) (drop (at + 1) numbers)
    c.loop-object.left c.of.result c.loop-object.invariant (drop_more numbers at 0 c.loop-object-test.true) c.of.ensures
    c.and-left.result c.and-left.ensures
