-- Between two turns the worker is awake at its pair, its tally is of what it finished, and its table has only objects
-- that it saw marked. It came there by the turns so far.
use Rattle.drain.proofs.Words.{CameFrom, HasSeenAll, IsAwake, []}
use Rattle.drain.specs.working.Jobs.{IsOnJob, TakesTurns}
use Rattle.drain.proofs.paired_worker.PairedWorker.work_off.Given as goal

abbrev pub invariant-loop : goal.invariant-loop
invariant-loop g l =
    IsOnJob g.V.Edges.count g.V.Edges.roots g.V.Edges.pairs g.V.Measured.measure l.job [] l.self l.tally
    × IsAwake l.self.worker × CameFrom l.initial.self.worker l.self.worker × HasSeenAll l.seen l.self.worker
    × TakesTurns l.job.workers l.initial.self l.self
