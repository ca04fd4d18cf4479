-- One more extent lowers the least repeat to the least of the extent's repeats, if that is lower.
use Rattle.id_index.proofs.Repeating.{least_more}
use Rattle.id_index.proofs.Seen.{seen_more}
use Rattle.id_index.proofs.repeats.least_repeat.Goals as goal

pub loop-at-preserved : goal.loop-at-preserved
loop-at-preserved c = record {
  least = least_more c.args.extents.now c.loop-at.at c.loop-at.page c.loop-at.seen c.seen_of-before.result c.requires
      c.loop-at-test.true c.loop-at.invariant.seen c.seen_of-before.ensures.same c.seen_of-before.ensures.other
      c.args.count c.loop-at.least c.lower_least-least.result c.loop-at.invariant.least c.lower_least-least.ensures;
  seen = seen_more c.args.extents.now c.loop-at.at c.loop-at.page c.loop-at.seen c.seen_of-before.result c.requires
      c.loop-at-test.true c.loop-at.invariant.seen c.seen_of-before.ensures.same c.seen_of-before.ensures.other;
}
