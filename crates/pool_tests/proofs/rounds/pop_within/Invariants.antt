-- The tries so far took nothing.
use Rattle.pool_tests.specs.Rounds.{HasNone, IsSameWorker}
use Rattle.pool_tests.proofs.rounds.pop_within.Given as goal

abbrev pub invariant-loop : goal.invariant-loop
invariant-loop g l = IsSameWorker l.initial.worker l.worker × HasNone l.worker
