-- The worker stays in its pool.
use Rattle.pool_bench.specs.Owners.{SamePool}
use Rattle.pool_bench.proofs.claims.claim_rows.Given as goal

abbrev pub invariant-loop-round : goal.invariant-loop-round
invariant-loop-round l = SamePool l.initial.worker l.worker
