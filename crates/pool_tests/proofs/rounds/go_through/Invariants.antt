-- Between two rounds nothing is held.
use Rattle.pool_tests.specs.Rounds.{HasNone, IsSameWorker}
use Rattle.pool_tests.proofs.rounds.go_through.Given as goal

abbrev pub invariant-loop-round : goal.invariant-loop-round
invariant-loop-round g l = IsSameWorker l.initial.worker l.worker × HasNone l.worker
