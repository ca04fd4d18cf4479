-- What was met so far was claimed, and the remaining calls end.
use Rattle.drain.proofs.Words.{AreClaimed, HasSeenAll, IsFinite, List, Yields, size, ℕ}
use Rattle.drain.proofs.paired_worker.PairedWorker.claim_all.Given as goal

abbrev pub invariant-loop-object : goal.invariant-loop-object
invariant-loop-object g l =
    g.I.Iterator.can_next l.objects × IsFinite (g.I.Iterator.remaining l.objects)
    × ((met : List ℕ) × Yields g.I.Iterator.next_gives l.initial.objects met l.objects
    × AreClaimed met l.initial.self.pair l.initial.self.worker l.self.pair l.self.worker)
    × HasSeenAll l.seen l.self.worker

abbrev pub decreases-loop-object : goal.decreases-loop-object
decreases-loop-object g l = size (g.I.Iterator.remaining l.objects)
