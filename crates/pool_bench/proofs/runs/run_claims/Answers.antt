-- Each worker is of the pool of the first one, whose objects are all roots, and has its idle number, 0.
use Rattle.std.proofs.Common.{get_or, ◌∙◌}
use Rattle.pool_bench.proofs.Owners.{same_roots}
use Rattle.pool_bench.proofs.runs.run_claims.Goals as goal

pub claim_all-requires-clause-roots : goal.claim_all-requires-clause-roots
claim_all-requires-clause-roots g c =
    λ _ _ k d below. same_roots c.args.sizes.objects c.in_ok-pool.worker
    (get_or c.in_ok-workers.workers.items k d).worker
    (c.in_ok-workers.ensures.same k d below) c.in_ok-pool.ensures.roots

pub claim_all-requires-clause-awake : goal.claim_all-requires-clause-awake
claim_all-requires-clause-awake g c =
    λ _ _ k d below. (c.in_ok-workers.ensures.same k d below).idle ∙ c.in_ok-pool.ensures.awake
