-- The marked objects of the rows so far are counted.
use Rattle.histogram.proofs.RowLemmas.{AreSums}
use Rattle.histogram.proofs.reachable.reachable.Given as goal

abbrev pub invariant-loop-number : goal.invariant-loop-number
invariant-loop-number g l = AreSums l.graph l.marks.marks l.number l.count l.bytes
