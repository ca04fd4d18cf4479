-- One look at the middle entry halves the entries between the two ends.
use Rattle.id_index.proofs.Words.{arith}
use Rattle.id_index.proofs.Wide.{upper_half}
use Rattle.id_index.proofs.wide_entries.first_from.Goals as goal

pub loop-low-preserved-then-id : goal.loop-low-preserved-then-id
loop-low-preserved-then-id g c =
    upper_half c.args.entries.now c.requires c.args.id c.loop-low.low c.loop-low.high _ c.loop-low.invariant
    (omega arith) (omega (arith, c.loop-low-test.true)) (omega (arith, c.if-id.true, c.id.ensures))
