-- Each object of the part is a root, and is seen after it was claimed.
use Rattle.std.proofs.Common.{◌≤◌, ◌+◌, ap, inr, ◌∙◌, arith}
use Rattle.buffer_pool.specs.Book.{Book}
use Rattle.pool_bench.proofs.Owners.{may_claim, one_more_seen, same_roots}
use Rattle.pool_bench.proofs.claims.claim_part.Goals as goal
use Rattle.pool_bench.proofs.claims.claim_part.Goals.{then-claim, else-claim}

pub claim-requires-clause-can : goal.claim-requires-clause-can
claim-requires-clause-can g c =
    may_claim c.args.to c.loop-object.object c.loop-object.worker
    (same_roots c.args.to c.args.worker.now c.loop-object.worker c.loop-object.invariant.0 c.requires.roots)
    c.loop-object-test.true

pub claim-requires-clause-busy : goal.claim-requires-clause-busy
claim-requires-clause-busy g c = inr (c.loop-object.invariant.0.idle ∙ c.requires.awake)

pub loop-object-preserved : goal.loop-object-preserved
loop-object-preserved g c =
    let was = c.loop-object.invariant in
    let event = c.claim.ensures.event in
    let white : c.if-claim.white + c.args.from ≤ c.loop-object.object + 1 =
    elim c.if-claim.branch [
      | then-claim w ↦ omega (arith, was.1, w.white-is)
      | else-claim w ↦ omega (arith, was.1, w.white-is)
    ] in (
      record {
        pool = c.claim.ensures.pool ∙ was.0.pool;
        setup = ap (λ (b : Book). b.setup) event.1 ∙ was.0.setup;
        idle = ap (λ (b : Book). b.account.idle) event.1 ∙ was.0.idle;
      },
      white,
      one_more_seen c.args.from c.loop-object.object event.0 c.loop-object.worker c.claim.new.worker event.1 was.2,
    )
