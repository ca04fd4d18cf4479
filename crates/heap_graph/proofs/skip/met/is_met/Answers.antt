-- After the last class no class declares the field.
use Rattle.heap_graph.proofs.Words.{arith, declares_described, list_any_none, sym}
use Rattle.heap_graph.proofs.skip.met.is_met.Goals as goal

pub returns : goal.returns
returns g c = λ records names.
    sym (list_any_none (declares_described records c.args.entry.now) c.args.classes.now
    (λ i d below. c.loop-class.invariant records names i d (omega (arith, below, c.loop-class-test.false))))
