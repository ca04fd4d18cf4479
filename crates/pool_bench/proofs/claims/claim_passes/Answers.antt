-- The roots are those of the pool in each pass.
use Rattle.pool_bench.proofs.Owners.{same_roots}
use Rattle.pool_bench.proofs.claims.claim_passes.Goals as goal

pub claim_rows-requires-clause-roots : goal.claim_rows-requires-clause-roots
claim_rows-requires-clause-roots c =
    same_roots c.args.sizes.objects c.args.numbered.worker c.loop.worker c.loop.invariant.0 c.requires.roots
