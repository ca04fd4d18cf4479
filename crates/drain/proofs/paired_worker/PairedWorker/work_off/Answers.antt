-- The worker's turns: each goes on from the one before, and after each the worker is awake.
use Rattle.drain.proofs.Words.{inl, inr, rules, subst}
use Rattle.drain.specs.working.Jobs.{ScansNext}
use Rattle.drain.specs.working.Jobs.TakesTurns.{more, none}
use Rattle.drain.proofs.AtHand.{came_again, came_at_all, goes_on_again, works}
use Rattle.drain.proofs.Giving.{gives_some, needs_none}
use Rattle.drain.proofs.Idling.{awake_at_work}
use Rattle.drain.proofs.Scanning.{same_tally, still_awake, still_on_job}
use Rattle.drain.proofs.paired_worker.PairedWorker.work_off.Goals as goal

-- it finished an object, and gave some of what it had
pub loop-preserved-in-Continue-branch-3 : goal.loop-preserved-in-Continue-branch-3
loop-preserved-in-Continue-branch-3 g c =
    let (on_job, awake, came, _, turns) = c.loop.invariant in
    let scan = c.in_ok-scan_next.ensures in
    let look = c.others_want.ensures in
    let give = c.in_ok-give.ensures in
    let old = c.loop.self in
    let mid = c.scan_next.new.self in
    let now = c.give.new.self in
    let on = goes_on_again look.goes_on give.goes_on in
    let one = subst (ScansNext old mid) c.if-branch.true scan.scans in
    let offers = gives_some c.if-others_want.true look.pair look.sees give.gives in (
      still_on_job on_job (came_again scan.scanned.goes_on.came on.came) give.at_work
          (same_tally on.finished scan.scanned.tally),
      still_awake (still_awake awake scan.scanned.goes_on) (works on),
      came_again came (came_again scan.scanned.goes_on.came on.came),
      λ o noted. on.came.seen o (scan.scanned.seen o noted),
      more _ old now turns (mid, inl (one, offers)),
    )

-- it finished an object, and the full stack had a buffer
pub loop-preserved-else-others_want : goal.loop-preserved-else-others_want
loop-preserved-else-others_want g c =
    let (on_job, awake, came, _, turns) = c.loop.invariant in
    let scan = c.in_ok-scan_next.ensures in
    let look = c.others_want.ensures in
    let on = look.goes_on in
    let old = c.loop.self in
    let mid = c.scan_next.new.self in
    let now = c.others_want.new.self in
    let one = subst (ScansNext old mid) c.if-branch.true scan.scans in
    let offers = needs_none c.if-others_want.false look.pair look.sees in (
      still_on_job on_job (came_again scan.scanned.goes_on.came on.came) (look.at_work scan.scanned.at_work)
          (same_tally on.finished scan.scanned.tally),
      still_awake (still_awake awake scan.scanned.goes_on) (works on),
      came_again came (came_again scan.scanned.goes_on.came on.came),
      λ o noted. on.came.seen o (scan.scanned.seen o noted),
      more _ old now turns (mid, inl (one, offers)),
    )

-- it waited, and there was more
pub loop-preserved : goal.loop-preserved
loop-preserved g c =
    let (on_job, awake, came, _, turns) = c.loop.invariant in
    let scan = c.in_ok-scan_next.ensures in
    let back = c.finds_more.ensures in
    let old = c.loop.self in
    let mid = c.scan_next.new.self in
    let now = c.finds_more.new.self in
    let none = subst (ScansNext old mid) c.if-branch.false scan.scans in
    let found = c.if-not-finds_more.false in
    let on = came_again scan.scanned.goes_on.came back.came in (
      still_on_job on_job on (awake_at_work (back.awake found) back.hand) (same_tally back.finished scan.scanned.tally),
      back.awake found,
      came_again came on,
      λ o noted. back.came.seen o (scan.scanned.seen o noted),
      more _ old now turns (mid, inr (none, back.pair, back.found found)),
    )

pub returns-then-not-finds_more-clause-came : goal.returns-then-not-finds_more-clause-came
returns-then-not-finds_more-clause-came g c =
    came_again c.in_ok-offer.ensures.goes_on.came
    (came_again c.loop.invariant.2
    (came_again c.in_ok-scan_next.ensures.scanned.goes_on.came c.if-not-finds_more.ensures.came))

pub returns-then-not-finds_more-clause-worked : goal.returns-then-not-finds_more-clause-worked
returns-then-not-finds_more-clause-worked g c =
    let old = c.loop.self in
    let mid = c.scan_next.new.self in
    let end = c.finds_more.ensures in (
      c.offer.new.self,
      old,
      mid,
      c.in_ok-offer.ensures.offers,
      c.loop.invariant.4,
      subst (ScansNext old mid) c.if-branch.false c.in_ok-scan_next.ensures.scans,
      end.pair,
      end.waited c.if-not-finds_more.true,
    )

pub returns-then-not-finds_more-clause-hand : goal.returns-then-not-finds_more-clause-hand
returns-then-not-finds_more-clause-hand g c = c.finds_more.ensures.hand

pub returns-then-not-finds_more-clause-tally : goal.returns-then-not-finds_more-clause-tally
returns-then-not-finds_more-clause-tally g c =
    same_tally c.finds_more.ensures.finished c.in_ok-scan_next.ensures.scanned.tally

pub returns-then-not-finds_more-clause-none : goal.returns-then-not-finds_more-clause-none
returns-then-not-finds_more-clause-none g c = c.finds_more.ensures.none

pub returns-then-not-finds_more-clause-idle : goal.returns-then-not-finds_more-clause-idle
returns-then-not-finds_more-clause-idle g c = c.finds_more.ensures.idle c.if-not-finds_more.true

-- before the first turn
pub loop-init : goal.loop-init
loop-init g c =
    let offer = c.in_ok-offer.ensures in
    let on_job = c.requires.on_job in
    let now = c.offer.new.self in (
      still_on_job on_job offer.goes_on.came offer.at_work (same_tally offer.goes_on.finished on_job.tally),
      still_awake c.requires.awake (works offer.goes_on),
      came_at_all now.worker,
      search rules,
      none now,
    )
