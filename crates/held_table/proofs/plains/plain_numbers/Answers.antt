-- One more set has its number.
use Rattle.std.proofs.Common.{arith}
use Rattle.held_table.proofs.MarkingStart.{plains_more}
use Rattle.held_table.proofs.plains.plain_numbers.Goals as goal

pub loop-set-preserved : goal.loop-set-preserved
loop-set-preserved g c = record {
  each = omega (
    arith,
    c.in_ok-push.ensures.len,
    c.loop-set.invariant.each,
    c.loop-set.plains.ok.0,
    c.push.new.self.ok.0,
  );
  plain = plains_more c.args.store.now c.loop-set.plains.items c.loop-set.set c.plain.result c.push.new.self.items
      c.loop-set.invariant.each c.loop-set.invariant.plain
      (record {
        labels_are = c.plain.ensures.labels;
        within = c.plain.ensures.within;
        plain = c.plain.ensures.plain;
      })
      c.in_ok-push.ensures.items;
}
