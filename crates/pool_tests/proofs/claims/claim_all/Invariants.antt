-- The worker stays in its pool, with its roots.
use Rattle.pool_tests.specs.Rounds.{IsSameWorker}
use Rattle.pool_tests.proofs.claims.claim_all.Given as goal

abbrev pub invariant-loop-object : goal.invariant-loop-object
invariant-loop-object g l = IsSameWorker l.initial.worker l.worker
