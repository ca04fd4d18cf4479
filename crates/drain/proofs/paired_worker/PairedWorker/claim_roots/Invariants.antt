-- The roots before this place were seen, and the worker is at work.
use Rattle.drain.proofs.Words.{Contains, GoesOn, IsAtWork, [], slice_index, ℕ, ◌<◌}
use Rattle.drain.proofs.paired_worker.PairedWorker.claim_roots.Given as goal

abbrev pub invariant-loop-root : goal.invariant-loop-root
invariant-loop-root g l =
    GoesOn l.initial.self.worker l.self.worker
    × IsAtWork l.self.pair [] l.self.worker
    × ((k : ℕ) → k < l.root-index → Contains l.self.worker.book.account.seen (slice_index l.roots k))
