-- Each worker has the idle number of the pool's first worker, 0.
use Rattle.std.proofs.Common.{◌∙◌}
use Rattle.pool_bench.proofs.runs.run_turns.Goals as goal

pub turn_all-requires-clause-awake : goal.turn_all-requires-clause-awake
turn_all-requires-clause-awake g c =
    λ _ _ k d below. (c.in_ok-workers.ensures.same k d below).idle ∙ c.in_ok-pool.ensures.awake
