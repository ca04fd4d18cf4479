-- Between two rounds nothing is held.
use Rattle.std.proofs.Common.{◌≡◌, []}
use Rattle.pool_tests.specs.Worked.{Holds}
use Rattle.pool_tests.proofs.race.run.Given as goal

abbrev pub invariant-loop : goal.invariant-loop
invariant-loop g l = (l.worker.pool ≡ l.initial.worker.pool) × Holds 2 [] l.worker
