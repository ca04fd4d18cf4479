-- Each yielded object may be claimed, and at the end all of them were yielded.
use Rattle.drain.proofs.Words.{MayClaim, Setup, [], refl, rules, subst, sym, ◌++◌, ◌∙◌, ◌∷◌}
use Rattle.drain.proofs.AtHand.{marked_claimed, more_claimed, none_claimed, white_at_work, white_claimed}
use Rattle.drain.proofs.Runs.{holds_of_next, met_all, runs_on}
use Rattle.drain.proofs.paired_worker.PairedWorker.claim_all.Goals as goal

pub loop-object-init : goal.loop-object-init
loop-object-init g c = (
  c.requires.can,
  c.requires.ends,
  ([], refl, none_claimed c.args.self.now.pair c.args.self.now.worker),
  c.requires.seen,
)

pub claim_unless_seen-requires-clause-pool : goal.claim_unless_seen-requires-clause-pool
claim_unless_seen-requires-clause-pool g c = c.loop-object.invariant.2.2.goes_on.came.pool ∙ c.requires.pool

pub claim_unless_seen-requires-clause-may : goal.claim_unless_seen-requires-clause-may
claim_unless_seen-requires-clause-may g c =
    let met = c.loop-object.invariant.2 in
    let besides = c.requires.may.1 in
    let before =
    holds_of_next g.I.Iterator.next_gives c.args.objects.now c.args.objects.now c.loop-object.objects refl
    c.requires.may.0 c.requires.may.2 met.0 met.1 (MayClaim c.args.self.now.worker.book.setup besides)
    c.requires.may.4 c.next.result c.next.new.self c.in-Some.object c.in-Some.is c.next.ensures.steps in (
      besides,
      met.2.at_work besides c.requires.may.3,
      subst (λ (e : Setup). MayClaim e besides c.in-Some.object) (sym met.2.goes_on.came.setup) before,
    )

pub put-requires-clause-at_hand : goal.put-requires-clause-at_hand
put-requires-clause-at_hand g c =
    let besides = c.requires.may.1 in
    let was = c.loop-object.invariant.2.2.at_work besides c.requires.may.3 in
    (besides, white_at_work besides c.if-claim_unless_seen.true c.claim_unless_seen.ensures.claimed was)

-- the object was white, and was put
pub loop-object-preserved-in-Continue-1 : goal.loop-object-preserved-in-Continue-1
loop-object-preserved-in-Continue-1 g c =
    let met = c.loop-object.invariant.2 in
    let claim = c.claim_unless_seen.ensures in
    let puts = c.in_ok-put.ensures.put in
    let step = subst (λ r. g.I.Iterator.next_gives c.loop-object.objects r c.next.new.self) c.in-Some.is
    c.next.ensures.steps in (
      search rules,
      search rules,
      (
        met.0 ++ c.in-Some.object ∷ [],
        runs_on g.I.Iterator.next_gives met.0 c.args.objects.now c.loop-object.objects c.in-Some.object
            c.next.new.self met.1 step,
        more_claimed met.2 (white_claimed c.if-claim_unless_seen.true claim.claimed puts),
      ),
      λ o noted. puts.goes_on.came.seen o (claim.seen o noted),
    )

-- the object was marked
pub loop-object-preserved : goal.loop-object-preserved
loop-object-preserved g c =
    let met = c.loop-object.invariant.2 in
    let claim = c.claim_unless_seen.ensures in
    let step = subst (λ r. g.I.Iterator.next_gives c.loop-object.objects r c.next.new.self) c.in-Some.is
    c.next.ensures.steps in (
      search rules,
      search rules,
      (
        met.0 ++ c.in-Some.object ∷ [],
        runs_on g.I.Iterator.next_gives met.0 c.args.objects.now c.loop-object.objects c.in-Some.object
            c.next.new.self met.1 step,
        more_claimed met.2 (marked_claimed c.if-claim_unless_seen.false claim.claimed),
      ),
      claim.seen,
    )

pub returns-clause-claimed : goal.returns-clause-claimed
returns-clause-claimed g c given always =
    let met = c.loop-object.invariant.2 in
    let same =
    met_all g.I.Iterator.next_gives c.args.objects.now c.args.objects.now c.loop-object.objects refl given always
    met.0 met.1 c.next.result c.next.new.self c.in_default.is c.next.ensures.steps in
    rw same at met.2
