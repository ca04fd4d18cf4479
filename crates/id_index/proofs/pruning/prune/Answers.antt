-- An extent is kept unless all its granules were seen, so one more extent is pruned.
use Rattle.id_index.proofs.Words.{List, Extent, arith, get_or_read, length, no_extent, extent_in, ℕ, ◌<◌, ◌∙◌, ◌≡◌}
use Rattle.id_index.proofs.Seen.{seen_more}
use Rattle.id_index.proofs.Pruned.{few_more, pruned_more}
use Rattle.id_index.proofs.pruning.prune.Goals as goal

pub loop-at-preserved : goal.loop-at-preserved
loop-at-preserved g c =
    let extents : List Extent = c.args.extents.now.items in
    let now : List Extent = c.loop-at.extents.items in
    let now' : List Extent = c.take_extent-kept.new.extents.items in
    let at : ℕ = c.loop-at.at in
    let kept : ℕ = c.loop-at.kept in
    let kept' : ℕ = c.take_extent-kept.result in
    let page : ℕ = c.loop-at.page in
    let seen : ℕ = c.loop-at.seen in
    let before : ℕ = c.seen_of-before.result in
    let extent : Extent = c.index-extent.result.now in
    let it = c.loop-at.invariant in
    let below : at < length extents = omega (arith, c.loop-at-test.true, it.pruned.long) in
    let read : extent ≡ extent_in extents at =
    get_or_read now at extent (omega (arith, below, it.pruned.long)) c.index-extent.ensures no_extent
    ∙ it.pruned.rest at (omega arith) in
    let same = rw read at c.seen_of-before.ensures.same in
    let other = rw read at c.seen_of-before.ensures.other in
    let taken = rw read at c.take_extent-kept.ensures.taken in
    let fits = rw read at c.take_extent-kept.ensures.fits in
    record {
      pruned = pruned_more extents now now' at kept kept' page seen before c.requires below it.pruned it.seen same other
          fits it.few taken;
      seen = rw read (seen_more extents at page seen before c.requires below it.seen same other);
      few = rw read (few_more extents now now' at kept kept' page seen before c.requires below it.pruned it.seen same
          other fits it.few taken);
    }
