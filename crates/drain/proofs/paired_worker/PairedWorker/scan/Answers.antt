-- What the object refers to may be claimed, since the object is at hand. The object is finished after all that was
-- seen, and the tally takes it in.
use Rattle.drain.proofs.Words.{Book, Contains, Contains-append_left, Contains-append_right, List, Setup, [], ap, arith}
use Rattle.drain.proofs.Words.{option_to_list, subst, sym, ℕ, ◌∙◌, ◌∷◌}
use Rattle.drain.specs.working.Scans.{MatchesMeasure}
use Rattle.drain.proofs.AtHand.{all_claimable, claimed_and_finished, may_finish, more_claimed}
use Rattle.drain.proofs.Scanning.{given_pairs, same_setup, same_tally, small_before}
use Rattle.drain.proofs.paired_worker.PairedWorker.scan.Goals as goal

pub claim_known-requires-clause-may : goal.claim_known-requires-clause-may
claim_known-requires-clause-may g c =
    let o = c.args.object in
    let given = c.requires.given in
    let on_job = c.requires.on_job in
    let exact = given_pairs o _ on_job.setup.pairs given.exact in (
      o ∷ [],
      on_job.at_work,
      all_claimable o (option_to_list c.args.given.0) c.args.self.now.worker.book.setup
          (λ s h. (exact s).0 (Contains-append_left (option_to_list c.args.given.0) given.objects s h)),
    )

pub claim_all-requires-clause-pool : goal.claim_all-requires-clause-pool
claim_all-requires-clause-pool g c = c.in_ok-claim_known.ensures.claimed.goes_on.came.pool ∙ c.requires.on_job.pool

pub claim_all-requires-clause-ends : goal.claim_all-requires-clause-ends
claim_all-requires-clause-ends g c = c.requires.given.finite

pub claim_all-requires-clause-may : goal.claim_all-requires-clause-may
claim_all-requires-clause-may g c =
    let o = c.args.object in
    let given = c.requires.given in
    let on_job = c.requires.on_job in
    let first = c.in_ok-claim_known.ensures.claimed in
    let setup = ap (λ (e : Setup). e.pairs) first.goes_on.came.setup in
    let exact = given_pairs o _ (setup ∙ on_job.setup.pairs) given.exact in (
      given.objects,
      o ∷ [],
      given.gives,
      first.at_work (o ∷ []) on_job.at_work,
      all_claimable o given.objects c.claim_known.new.self.worker.book.setup
          (λ s h. (exact s).0 (Contains-append_right (option_to_list c.args.given.0) given.objects s h)),
    )

pub finish-requires-clause-can : goal.finish-requires-clause-can
finish-requires-clause-can g c =
    let o = c.args.object in
    let given = c.requires.given in
    let on_job = c.requires.on_job in
    let all = c.in_ok-claim_all.ensures.claimed given.objects given.gives in
    let are = more_claimed c.in_ok-claim_known.ensures.claimed all in
    let setup = ap (λ (e : Setup). e.pairs) are.goes_on.came.setup in
    let exact = given_pairs o _ (setup ∙ on_job.setup.pairs) given.exact in
    may_finish (are.at_work (o ∷ []) on_job.at_work) (λ s h. are.saw s ((exact s).1 h))

pub add-requires : goal.add-requires
add-requires g c =
    let o = c.args.object in
    let given = c.requires.given in
    let on_job = c.requires.on_job in
    let all = c.in_ok-claim_all.ensures.claimed given.objects given.gives in
    let are = more_claimed c.in_ok-claim_known.ensures.claimed all in
    let event = c.finish.ensures.event in
    let done = claimed_and_finished c.finish.new.worker on_job.at_work are c.finish.ensures.pool event in
    let bounded = c.recall_measure.ensures in
    let setup = same_setup done.works_on.came.setup on_job.setup in
    let few = rw setup.objects at c.recall_few_finished.ensures.few in
    let m = g.V.Measured.measure c.args.job.now.graph.now in
    let scan = subst (MatchesMeasure m o) (sym c.read.ensures)
    (given.ends c.claim_all.new.objects c.in_ok-claim_all.ensures.ended) in
    record {
      row = omega (arith, scan.row, bounded.within o c.requires.below, on_job.tally.each);
      small = small_before o bounded done.finished few on_job.tally;
      bytes = omega (arith, scan.bytes, bounded.few_bytes o);
      unresolved = omega (arith, scan.unresolved, bounded.few_unresolved o);
    }

pub returns-clause-scanned : goal.returns-clause-scanned
returns-clause-scanned g c =
    let o = c.args.object in
    let given = c.requires.given in
    let on_job = c.requires.on_job in
    let all = c.in_ok-claim_all.ensures.claimed given.objects given.gives in
    let are = more_claimed c.in_ok-claim_known.ensures.claimed all in
    let event = c.finish.ensures.event in
    let done = claimed_and_finished c.finish.new.worker on_job.at_work are c.finish.ensures.pool event in
    let m = g.V.Measured.measure c.args.job.now.graph.now in
    let before = c.args.self.now.worker.book.account.finished in
    let scan = subst (MatchesMeasure m o) (sym c.read.ensures)
    (given.ends c.claim_all.new.objects c.in_ok-claim_all.ensures.ended) in
    record {
      goes_on = done.works_on;
      at_work = done.at_work;
      tally = same_tally done.finished (c.add.ensures m before o on_job.tally scan);
      seen = λ x noted. subst (λ (xs : List ℕ). Contains xs x) (sym (ap (λ (b : Book). b.account.seen) event))
          (c.in_ok-claim_all.ensures.seen x noted);
    }

-- it comes after all that was finished before
pub returns-clause-finished : goal.returns-clause-finished
returns-clause-finished g c =
    let given = c.requires.given in
    let all = c.in_ok-claim_all.ensures.claimed given.objects given.gives in
    let are = more_claimed c.in_ok-claim_known.ensures.claimed all in
    (claimed_and_finished c.finish.new.worker c.requires.on_job.at_work are c.finish.ensures.pool
    c.finish.ensures.event).finished
