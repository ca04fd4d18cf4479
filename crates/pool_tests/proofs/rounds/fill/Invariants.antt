-- The buffer has what the worker claimed.
use Rattle.pool_tests.specs.Rounds.{HasOne, IsSameWorker}
use Rattle.pool_tests.proofs.rounds.fill.Given as goal

abbrev pub invariant-loop-object : goal.invariant-loop-object
invariant-loop-object g l = IsSameWorker l.initial.worker l.worker × HasOne l.worker l.held
