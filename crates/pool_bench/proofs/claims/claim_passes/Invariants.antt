-- The worker stays in its pool, and each pass so far found at most 4,294,967,295 white objects.
use Rattle.std.proofs.Common.{◌*◌, ◌≤◌}
use Rattle.pool_bench.specs.Owners.{SamePool}
use Rattle.pool_bench.proofs.claims.claim_passes.Given as goal

abbrev pub invariant-loop : goal.invariant-loop
invariant-loop l = SamePool l.initial.worker l.worker × (l.white ≤ l.counter * 4294967295)
