-- The worker stays in its pool, and each object so far was claimed.
use Rattle.std.proofs.Common.{◌+◌, ◌≤◌}
use Rattle.pool_bench.specs.Owners.{HasSeen, SamePool}
use Rattle.pool_bench.proofs.claims.claim_part.Given as goal

abbrev pub invariant-loop-object : goal.invariant-loop-object
invariant-loop-object g l = SamePool l.initial.worker l.worker × (l.white + l.from ≤ l.object)
    × HasSeen l.from l.object l.worker
