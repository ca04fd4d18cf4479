-- One more entry that has the identifier of the entry before it lowers the least number to its own, if that is less.
use Rattle.id_index.proofs.Words.{arith, length}
use Rattle.id_index.proofs.Wide.{least_of_both, none_less}
use Rattle.id_index.proofs.wide_entries.least_repeat.Goals.{else-id, then-id}
use Rattle.id_index.proofs.wide_entries.least_repeat.Goals as goal

pub loop-at-preserved : goal.loop-at-preserved
loop-at-preserved c =
    elim c.if-id.branch [
      | then-id w ↦
          least_of_both c.args.entries.now c.loop-at.at (length c.args.entries.now) c.loop-at.least c.if-id.least
          c.loop-at.invariant
          (record {
            some = omega (arith, c.loop-at.auto.at);
            within = omega (arith, c.loop-at-test.true);
            same = omega (arith, w.if-id.true, c.id.ensures, c.id-in-loop-at.ensures);
          })
          (omega (arith, w.least-is, w.min-least.ensures))
      | else-id w ↦
          rw w.least-is
          (none_less c.args.entries.now c.loop-at.at (length c.args.entries.now) c.loop-at.least
          c.loop-at.invariant (λ repeats.
          w.if-id.false (omega (arith, repeats.same, c.id.ensures, c.id-in-loop-at.ensures))))
    ]
