-- The worker has its pair still, and each turn so far was in vain: nothing else changed since it went idle.
use Rattle.drain.proofs.Words.{idled, ◌≡◌}
use Rattle.drain.proofs.Idling.{IsIdling}
use Rattle.drain.specs.working.Idle.{WaitsInVain}
use Rattle.drain.proofs.paired_worker.PairedWorker.finds_more.Given as goal

abbrev pub invariant-loop-turn : goal.invariant-loop-turn
invariant-loop-turn g l =
    IsIdling l.fn.self.worker l.self.worker × (l.self.pair ≡ l.fn.self.pair)
    × WaitsInVain l.workers l.turn (idled l.fn.self.worker.book) l.self.worker.book
