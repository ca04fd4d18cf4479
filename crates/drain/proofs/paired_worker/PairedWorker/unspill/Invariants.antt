-- A result of unspilling from the pair as it is now is one of unspilling from the pair as it was at first. The spill
-- list gets shorter.
use Rattle.drain.proofs.Words.{Book, GoesOn, IsAtWork, PairState, Unspills, [], length}
use Rattle.drain.proofs.paired_worker.PairedWorker.unspill.Given as goal

abbrev pub invariant-loop-self : goal.invariant-loop-self
invariant-loop-self g l =
    GoesOn l.initial.self.worker l.self.worker
    × IsAtWork l.self.pair [] l.self.worker
    × ((new : PairState) (after : Book) → Unspills l.self.pair l.self.worker.book new after
    → Unspills l.initial.self.pair l.initial.self.worker.book new after)

abbrev pub decreases-loop-self : goal.decreases-loop-self
decreases-loop-self g l = length l.self.pair.spill
