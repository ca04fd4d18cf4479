-- Each root may be claimed as a root, and put if it was white; after the last place of the list each was seen.
use Rattle.drain.proofs.Words.{AreClaimed, Contains, Contains-get_or, Contains-push, List, Setup, [], arith, below_more}
use Rattle.drain.proofs.Words.{get_or_default, inl, slice_index, subst, sym, ℕ, ◌∙◌, ◌∷◌, ◌≡◌}
use Rattle.drain.proofs.AtHand.{goes_on_again, marked_claimed, white_at_work, white_claimed}
use Rattle.drain.proofs.paired_worker.PairedWorker.claim_roots.Goals as goal
use Rattle.drain.proofs.paired_worker.PairedWorker.claim_roots.Goals.{else-claim, then-claim+in_ok-put}

pub claim-requires-clause-pool : goal.claim-requires-clause-pool
claim-requires-clause-pool g c = c.loop-root.invariant.0.came.pool ∙ c.requires.pool

pub claim-requires-clause-may : goal.claim-requires-clause-may
claim-requires-clause-may g c =
    let was = c.loop-root.invariant in
    let root = slice_index c.args.roots.now c.loop-root.root-index in
    let here = subst (λ (rs : List ℕ). Contains rs root) c.requires.roots
    (Contains-get_or c.args.roots.now c.loop-root.root-index 0 c.loop-root-test.true) in
    ([], was.1, inl (subst (λ (e : Setup). Contains e.roots root) (sym was.0.came.setup) here))

pub put-requires-clause-at_hand : goal.put-requires-clause-at_hand
put-requires-clause-at_hand g c =
    ([], white_at_work [] c.if-claim.true c.claim.ensures.claimed c.loop-root.invariant.1)

pub loop-root-preserved : goal.loop-root-preserved
loop-root-preserved g c =
    let was = c.loop-root.invariant in
    let old = c.loop-root.self in
    let new = c.if-claim.self in
    let root = slice_index c.args.roots.now c.loop-root.root-index in
    let are : AreClaimed (root ∷ []) old.pair old.worker new.pair new.worker =
    elim c.if-claim.branch [
      | then-claim+in_ok-put w ↦
          rw w.self-is (white_claimed w.if-claim.true c.claim.ensures.claimed w.in_ok-put.ensures.put)
      | else-claim w ↦ rw w.self-is (marked_claimed w.if-claim.false c.claim.ensures.claimed)
    ] in (
      goes_on_again was.0 are.goes_on,
      are.at_work [] was.1,
      below_more (λ (k : ℕ). Contains new.worker.book.account.seen (slice_index c.args.roots.now k))
          c.loop-root.root-index
          (λ k low. are.goes_on.came.seen (slice_index c.args.roots.now k) (was.2 k low))
          (are.saw root (Contains-push [] root)),
    )

pub returns-clause-saw : goal.returns-clause-saw
returns-clause-saw g c =
    λ o root.
    let was = c.loop-root.invariant in
    let there = subst (λ (rs : List ℕ). Contains rs o) (sym c.requires.roots)
    (subst (λ (e : Setup). Contains e.roots o) was.0.came.setup root) in
    let named : slice_index c.args.roots.now there.0 ≡ o =
    get_or_default c.args.roots.now there.0 0 o there.1 ∙ there.2 in
    subst (Contains c.loop-root.self.worker.book.account.seen) named
    (was.2 there.0 (omega (arith, there.1, c.loop-root-test.false)))
