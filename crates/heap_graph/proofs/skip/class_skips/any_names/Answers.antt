-- After the last entry no entry names the class.
use Rattle.heap_graph.proofs.Words.{arith, list_any_none, names_class, option_copied, sym}
use Rattle.heap_graph.proofs.skip.class_skips.any_names.Goals as goal

pub returns : goal.returns
returns c =
    sym (list_any_none (names_class (option_copied c.args.class)) c.args.entries.now
    (λ i d below. c.loop-entry.invariant i d (omega (arith, below, c.loop-entry-test.false))))
