-- Each object is a root, and a white one went into the buffer.
use Rattle.std.proofs.Common.{◌∙◌, inr, sym, subst, arith}
use Rattle.buffer_pool.specs.Calls.{HeldBuffer}
use Rattle.pool_tests.specs.Rounds.{HasOne}
use Rattle.pool_tests.proofs.RoundSteps.{left_out, may_claim, not_white, put_in, same_again, same_claimed, same_roots}
use Rattle.pool_tests.proofs.rounds.fill.Goals as goal
use Rattle.pool_tests.proofs.rounds.fill.Goals.{then-claim+in-Ok, else-claim}

pub claim-requires-clause-can : goal.claim-requires-clause-can
claim-requires-clause-can g c =
    let roots = same_roots 4000 c.args.worker.now c.loop-object.worker c.loop-object.invariant.0 c.requires.roots in
    may_claim 4000 c.loop-object.worker c.loop-object.object roots
    (omega (arith, c.loop-object-test.true, c.requires.to))

pub loop-object-preserved : goal.loop-object-preserved
loop-object-preserved g c =
    let was = c.loop-object.invariant in
    let old = c.loop-object.worker in
    let new = c.claim.new.worker in
    let event = c.claim.ensures.event in
    let pool = c.claim.ensures.pool in
    let o = c.loop-object.object in
    let one : HasOne new c.if-claim.held =
    elim c.if-claim.branch [
      | then-claim+in-Ok w ↦
          subst (λ (h : HeldBuffer). HasOne new h) (sym (w.held-is ∙ w.in-Ok.ensures.ok.1))
          (put_in old new pool c.loop-object.held o event.0 was.1 event.1 (event.2.0 w.if-claim.true))
      | else-claim w ↦ subst (λ (h : HeldBuffer). HasOne new h) (sym w.held-is)
          (left_out old new pool c.loop-object.held o event.0 was.1 event.1
          (not_white c.claim.result event.0 event.2 w.if-claim.false))
    ] in
    (same_again c.args.worker.now old new was.0 (same_claimed old new pool o event.0 event.1), one)

pub claim-requires-clause-busy : goal.claim-requires-clause-busy
claim-requires-clause-busy g c = inr c.loop-object.invariant.1.awake
