-- While it is idle the worker keeps what it had; each turn in vain is one more, and the last look says why it leaves.
use Rattle.drain.proofs.Words.{arith, false≢true, idle_loaded, idled, inl, inr, refl, subst, sym, ℕ, ◌∙◌, ◌≡◌}
use Rattle.drain.specs.working.Idle.{HasFoundMore, HasWaited, WaitsInVain}
use Rattle.drain.proofs.Idling.{awake_back, goes_idle, hand_still, may_idle, no_turn, none_still, not_all_idle}
use Rattle.drain.proofs.Idling.{one_more_turn, sees_after, sees_full, sees_idle, still_back}
use Rattle.drain.proofs.paired_worker.PairedWorker.finds_more.Goals as goal

pub idle_up-requires-clause-may : goal.idle_up-requires-clause-may
idle_up-requires-clause-may g c = may_idle c.requires.awake c.requires.hand c.requires.none

pub loop-turn-init : goal.loop-turn-init
loop-turn-init g c =
    let up = c.idle_up.ensures in (
      goes_idle c.args.self.now.pair c.idle_up.new.worker up.pool up.event c.requires.awake c.requires.none,
      refl,
      no_turn c.args.workers c.args.self.now.worker.book up.event,
    )

pub loop-turn-preserved : goal.loop-turn-preserved
loop-turn-preserved g c =
    let was = c.loop-turn.invariant in
    let ask = c.sees_all_idle.ensures in
    let look = c.sees_empty.ensures in
    let word = ask.sees.0 in
    let one = sees_idle c.sees_all_idle.new.self.worker ask.pool was.0 word ask.sees.1 in
    let not_all = not_all_idle c.if-sees_all_idle.false ask.sees.2 in
    let empty = sees_after word c.loop-turn.self.worker.book ask.sees.1 c.if-not-sees_empty.false look.sees in (
      sees_full c.sees_empty.new.worker look.pool one c.sees_empty.result look.sees,
      ask.pair ∙ was.1,
      one_more_turn was.2 (word, not_all, empty),
    )

pub come_back-requires-clause-may : goal.come_back-requires-clause-may
come_back-requires-clause-may g c =
    let ask = c.sees_all_idle.ensures in
    let look = c.sees_empty.ensures in
    let one = sees_idle c.sees_all_idle.new.self.worker ask.pool c.loop-turn.invariant.0 ask.sees.0 ask.sees.1 in
    let two = sees_full c.sees_empty.new.worker look.pool one c.sees_empty.result look.sees in
    (two.still.came.share ∙ c.requires.awake.share, two.idle)

-- all are idle
pub returns-then-sees_all_idle : goal.returns-then-sees_all_idle
returns-then-sees_all_idle g c =
    let was = c.loop-turn.invariant in
    let ask = c.sees_all_idle.ensures in
    let old = c.args.self.now.worker.book in
    let end = c.sees_all_idle.new.self.worker in
    let one = sees_idle end ask.pool was.0 ask.sees.0 ask.sees.1 in
    let same = ask.pair ∙ was.1 in
    let last = subst (λ (word : ℕ). end.book ≡ idle_loaded word c.loop-turn.self.worker.book)
    (ask.sees.2.0 c.if-sees_all_idle.true) ask.sees.1 in
    record {
      came = one.still.came;
      pair = same;
      finished = one.still.finished;
      hand = hand_still same one.still c.requires.hand;
      none = none_still same one.still c.requires.none;
      awake = λ more. absurd (false≢true more);
      idle = λ left. one.idle;
      found = λ more. absurd {A = HasFoundMore c.args.workers 1024 old end.book} (false≢true more);
      waited = λ left. inl (c.loop-turn.turn, c.loop-turn.self.worker.book, c.loop-turn-test.true, was.2, last);
    }

-- the full stack has a buffer
pub returns-then-not-sees_empty : goal.returns-then-not-sees_empty
returns-then-not-sees_empty g c =
    let was = c.loop-turn.invariant in
    let ask = c.sees_all_idle.ensures in
    let look = c.sees_empty.ensures in
    let down = c.come_back.ensures in
    let old = c.args.self.now.worker.book in
    let end = c.come_back.new.self.worker in
    let word = ask.sees.0 in
    let one = sees_idle c.sees_all_idle.new.self.worker ask.pool was.0 word ask.sees.1 in
    let two = sees_full c.sees_empty.new.worker look.pool one c.sees_empty.result look.sees in
    let still = still_back end down.pool two down.back in
    let same = down.pair ∙ ask.pair ∙ was.1 in
    record {
      came = still.came;
      pair = same;
      finished = still.finished;
      hand = hand_still same still c.requires.hand;
      none = none_still same still c.requires.none;
      awake = λ more. awake_back end down.pool two c.requires.awake down.back;
      idle = λ left. absurd (false≢true (sym left));
      found = λ more. (
        c.loop-turn.turn,
        c.loop-turn.self.worker.book,
        word,
        c.sees_empty.new.worker.book,
        c.loop-turn-test.true,
        was.2,
        not_all_idle c.if-sees_all_idle.false ask.sees.2,
        sees_after word c.loop-turn.self.worker.book ask.sees.1 c.if-not-sees_empty.true look.sees,
        down.back,
      );
      waited = λ left. absurd {A = HasWaited c.args.workers 1024 old end.book} (false≢true (sym left));
    }

-- it made all its turns
pub returns : goal.returns
returns g c =
    let idling = c.loop-turn.invariant.0 in
    let same = c.loop-turn.invariant.1 in
    let begun = c.args.self.now.worker.book in
    let end = c.loop-turn.self.worker.book in
    let all : c.loop-turn.turn ≡ 1024 = omega (arith, c.loop-turn-test.false, c.loop-turn.auto.turn-end) in
    record {
      came = idling.still.came;
      pair = same;
      finished = idling.still.finished;
      hand = hand_still same idling.still c.requires.hand;
      none = none_still same idling.still c.requires.none;
      awake = λ more. absurd (false≢true more);
      idle = λ left. idling.idle;
      found = λ more. absurd {A = HasFoundMore c.args.workers 1024 begun end} (false≢true more);
      waited = λ left. inr (subst (λ (made : ℕ). WaitsInVain c.args.workers made (idled begun) end) all
          c.loop-turn.invariant.2);
    }
