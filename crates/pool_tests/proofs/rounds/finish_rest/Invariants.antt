-- Between two buffers nothing is held.
use Rattle.pool_tests.specs.Rounds.{HasNone, IsSameWorker}
use Rattle.pool_tests.proofs.rounds.finish_rest.Given as goal

abbrev pub invariant-loop : goal.invariant-loop
invariant-loop g l = IsSameWorker l.initial.worker l.worker × HasNone l.worker
