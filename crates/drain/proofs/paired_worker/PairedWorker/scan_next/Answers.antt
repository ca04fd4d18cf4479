-- The object that was got is at hand besides what the pair has, and is scanned. If none was got, none was spilled: a
-- spilled one would have been got.
use Rattle.drain.proofs.Words.{Contains, List, Some, [], ap, subst, sym, ℕ, ◌++◌, ◌<◌, ◌∙◌, ◌∷◌}
use Rattle.work_pair.specs.CallEffects.{Gets}
use Rattle.drain.proofs.AtHand.{at_work_after, backs, goes_on_after, got_is_object, works, works_on_again}
use Rattle.drain.proofs.Outcomes.{at_none, at_some}
use Rattle.drain.proofs.Scanning.{same_setup, same_tally}
use Rattle.drain.proofs.Giving.{none_got, none_to_get, same_answer}
use Rattle.drain.proofs.paired_worker.PairedWorker.scan_next.Goals as goal

pub get-requires-clause-backed : goal.get-requires-clause-backed
get-requires-clause-backed g c = backs [] [] c.requires.on_job.at_work.hand

pub scan_one-requires-clause-on_job : goal.scan_one-requires-clause-on_job
scan_one-requires-clause-on_job g c κs within =
    let got = c.in_ok-object.ensures in
    let old = c.args.self.now.worker in
    let new = c.get.new.worker in
    let effect = at_some _ _ c.in-Some.object got.got c.in-Some.is in
    let on_job = c.requires.on_job in
    record {
      pool = got.pool ∙ on_job.pool;
      setup = same_setup effect.kept.setup on_job.setup;
      at_work = at_work_after old new effect [] got.going on_job.at_work;
      tally = same_tally effect.kept.finished on_job.tally;
    }

pub scan_one-requires-clause-below : goal.scan_one-requires-clause-below
scan_one-requires-clause-below g c κs within =
    let o = c.in-Some.object in
    let got = c.in_ok-object.ensures in
    let effect = at_some _ _ o got.got c.in-Some.is in
    let on_job = c.requires.on_job in
    let at_work = at_work_after c.args.self.now.worker c.get.new.worker effect [] got.going on_job.at_work in
    let setup = same_setup effect.kept.setup on_job.setup in
    subst (λ (n : ℕ). o < n) setup.objects (got_is_object at_work c.recall_within.ensures.charge)

pub scan_one-requires-clause-seen : goal.scan_one-requires-clause-seen
scan_one-requires-clause-seen g c κs within =
    let effect = at_some _ _ c.in-Some.object c.in_ok-object.ensures.got c.in-Some.is in
    λ x noted. subst (λ (xs : List ℕ). Contains xs x) (sym effect.kept.seen) (c.requires.seen x noted)

pub returns-clause-scanned : goal.returns-clause-scanned
returns-clause-scanned g c =
    let got = c.in_ok-object.ensures in
    let effect = at_some _ _ c.in-Some.object got.got c.in-Some.is in
    let on = goes_on_after c.args.self.now.worker c.get.new.worker effect got.pool in
    let scanned = c.in_ok-scan_one.ensures.scanned in
    record {
      goes_on = works_on_again (works on) scanned.goes_on;
      at_work = scanned.at_work;
      tally = scanned.tally;
      seen = scanned.seen;
    }

pub returns-clause-scans : goal.returns-clause-scans
returns-clause-scans g c =
    let o = c.in-Some.object in
    let got = c.in_ok-object.ensures in
    let effect = at_some _ _ o got.got c.in-Some.is in
    let on = goes_on_after c.args.self.now.worker c.get.new.worker effect got.pool in
    let scan = c.in_ok-scan_one.ensures in
    record {
      works_on = works_on_again (works on) scan.scanned.goes_on;
      at_work = scan.scanned.at_work;
      object = o;
      finished = scan.finished ∙ ap (λ (xs : List ℕ). xs ++ o ∷ []) on.finished;
    }

-- no object was got
pub returns-in_default : goal.returns-in_default
returns-in_default g c =
    let got = c.in_ok-object.ensures in
    let other = c.in_default.not-Some in
    let object = c.in_ok-object.field-0 in
    let none = none_got object other in
    let told = at_none _ object got.none none in
    let old = c.args.self.now in
    let new = c.get.new.worker in
    let on = goes_on_after old.worker new told.0 got.pool in
    let spilled = none_to_get old.pair.spill object other
    (λ o rest is. same_answer object (Some o) (got.last o rest is).0) in
    record {
      scanned = record {
        goes_on = works on;
        at_work = at_work_after old.worker new told.0 [] got.going c.requires.on_job.at_work;
        tally = same_tally on.finished c.requires.on_job.tally;
        seen = λ x noted. on.came.seen x (c.requires.seen x noted);
      };
      scans = subst (λ r. Gets old.pair old.worker.book r c.get.new.self new.book) none (got.gets spilled);
      none = λ _. (told.1, at_none _ object got.closed none, at_none _ object got.found none);
      of_pool = tt;
    }
