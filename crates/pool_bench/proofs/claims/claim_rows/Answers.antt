-- No row ends after the last object, so its objects are roots.
use Rattle.std.proofs.Common.{arith}
use Rattle.pool_bench.proofs.Owners.{same_roots}
use Rattle.pool_bench.proofs.claims.claim_rows.Goals as goal

pub claim_part-requires-clause-roots : goal.claim_part-requires-clause-roots
claim_part-requires-clause-roots c =
    λ o below.
    let roots = same_roots c.args.sizes.objects c.args.worker.now c.loop-round.worker c.loop-round.invariant
    c.requires.roots in
    roots o (omega (arith, below, c.min-to.ensures))
