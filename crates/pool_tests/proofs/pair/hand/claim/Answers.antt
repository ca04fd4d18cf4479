-- A root may be claimed, and one that was white may be put.
use Rattle.std.proofs.Common.{inr, arith}
use Rattle.pool_tests.proofs.Readiness.{claimed_backed, claimed_worker, may_claim}
use Rattle.pool_tests.proofs.pair.hand.claim.Goals as goal

pub claim-requires-clause-can : goal.claim-requires-clause-can
claim-requires-clause-can g c =
    may_claim 400 c.args.object c.args.pool.now c.args.worker.now c.requires.worker
    (omega (arith, c.if-object-ge-OBJECTS.false))

pub returns : goal.returns
returns g c =
    let event = c.claim.ensures.event in
    let worker = claimed_worker 400 c.args.pool.now c.args.worker.now c.claim.new.worker c.args.object event.0
    c.requires.worker c.claim.ensures.pool event.1 in
    record {
      worker = worker;
      backed = claimed_backed c.args.pair.now c.args.object event.0 c.args.worker.now.book c.claim.new.worker.book
          event.1 (event.2.0 c.if-not-claim.false) c.requires.backed;
      busy = inr worker.idle;
    }
