-- What a worker with its pair has at hand after each call.
use Rattle.drain.proofs.Words.{All, All-from_get_or, AreClaimed, AreOfSize, Book, Bool, CallEffect, CameFrom, CanClaim}
use Rattle.drain.proofs.Words.{CanFinish, Contains, Contains-append_cases, Contains-append_left, Contains-get_or}
use Rattle.drain.proofs.Words.{Contains-push, Contains-push_cases, GoesOn, HasAtHand, Owner, IsAtWork, IsBacked}
use Rattle.drain.proofs.Words.{IsBusy, IsClaimed, IsFree, IsOpen, IsPut, List, MayClaim, PairState, Setup, WorksOn, []}
use Rattle.drain.proofs.Words.{ap, arith, buffered_items, claimed, cond, empty_pair, eq-eqb, false, false≢true}
use Rattle.drain.proofs.Words.{finished, get_or, if◌then◌else◌, inl, inr, ne_eqb, none_last, only, only-same}
use Rattle.drain.proofs.Words.{pair_items, refl, stands_times, subst, sum_of-append, sym, times, times-remove_one}
use Rattle.drain.proofs.Words.{times_stands, true, without_spill, ℕ, ⊎_elim, ◌++◌, ◌<◌, ◌==◌, ◌↔◌, ◌∙◌, ◌∷◌, ◌≡◌, ◌≢◌}
use Rattle.mark_core.specs.Account.{Account}

pub came_at_all : (w : Owner) → CameFrom w w
came_at_all w = record { pool = refl; setup = refl; share = refl; seen = λ o h. h }

pub came_again : {a b c : Owner} → CameFrom a b → CameFrom b c → CameFrom a c
came_again s t = record {
  pool = t.pool ∙ s.pool;
  setup = t.setup ∙ s.setup;
  share = t.share ∙ s.share;
  seen = λ o h. t.seen o (s.seen o h);
}

pub goes_on_at_all : (w : Owner) → GoesOn w w
goes_on_at_all w = record { came = came_at_all w; idle = refl; finished = refl }

pub goes_on_again : {a b c : Owner} → GoesOn a b → GoesOn b c → GoesOn a c
goes_on_again s t = record {
  came = came_again s.came t.came;
  idle = t.idle ∙ s.idle;
  finished = t.finished ∙ s.finished;
}

pub works_on_again : {a b c : Owner} → WorksOn a b → WorksOn b c → WorksOn a c
works_on_again s t = record { came = came_again s.came t.came; idle = t.idle ∙ s.idle }

-- a worker that goes on, without finishing anything, works on
pub works : {a b : Owner} → GoesOn a b → WorksOn a b
works on = record { came = on.came; idle = on.idle }

-- a worker with the share and the idle number of a busy one is busy
pub busy_on : (a b : Account) → b.share ≡ a.share → b.idle ≡ a.idle → IsBusy a → IsBusy b
busy_on a b share idle busy = ⊎_elim (λ several. inl (λ one. several (sym share ∙ one)))
    (λ awake. inr (idle ∙ awake)) busy

-- a list that contains nothing is empty
pub nothing : (xs : List ℕ) → ((o : ℕ) → times o xs ≡ 0) → xs ≡ []
nothing [] none = refl
nothing (x ∷ xs) none = absurd (omega (arith, none x, only-same x x refl))

-- an object in a list of one object is that object
pub only_member : (a o : ℕ) → Contains (a ∷ []) o → a ≡ o
only_member a o h = ⊎_elim (λ e. absurd (omega (arith, e.1))) (λ e. e) (Contains-push_cases [] a o h)

-- a free worker that has no pair yet has nothing at hand
pub free_hand : {w : Owner} → IsFree w → HasAtHand empty_pair [] w
free_hand free = record {
  going = record { going = refl; third = refl };
  sized = record { first = tt; second = tt; third = tt };
  held = λ i. ap (times i) free.held;
  charge = λ o. ap (times o) free.charge;
}

-- a pair without items has as much at hand without its spill list
pub hand_without_spill : {p : PairState} {w : Owner} → pair_items p ≡ [] → HasAtHand p [] w
    → HasAtHand (without_spill p) [] w
hand_without_spill {p} none hand = record {
  going = record { going = hand.going.going; third = hand.going.third };
  sized = record { first = hand.sized.first; second = hand.sized.second; third = hand.sized.third };
  held = hand.held;
  charge = λ o.
      omega (arith, hand.charge o, ap (times o) none, ap (times o) (none_last p.spill (buffered_items p) none));
}

-- a worker whose pair is gone is free if nothing is at hand and no push is open
pub gone_free : {w : Owner} → HasAtHand empty_pair [] w → w.book.account.open_push ≡ false → IsFree w
gone_free {w} hand closed = record {
  held = nothing w.book.account.held hand.held;
  charge = nothing w.book.account.charge (λ o. hand.charge o);
  open_push = closed;
}

-- a worker that has `put` and `rest` at hand backs its pair and the objects `put`
pub backs : {p : PairState} (put rest : List ℕ) {w : Owner} → HasAtHand p (put ++ rest) w → IsBacked p put w.book
backs {p} put rest hand = record {
  held = λ i. omega (arith, hand.held i);
  charged = λ o. omega
      (arith, hand.charge o, sum_of-append (only o) (pair_items p) put, sum_of-append (only o) put rest);
  sized = hand.sized;
}

module _ {old : PairState} (before : Owner) {put got : List ℕ} {new : PairState} (after : Owner)
    (effect : CallEffect old before.book put got new after.book) where
  -- an object that was put is in the pair, or was pushed with a buffer of it; one that was got is no longer in the pair
  pub hand_after : (rest : List ℕ) → IsOpen new → HasAtHand old (put ++ rest) before
      → HasAtHand new (got ++ rest) after
  hand_after rest going was = record {
    going = going;
    sized = effect.backed.sized;
    held = λ i. omega (arith, effect.held i, effect.buffers i, was.held i);
    charge = λ o.
        let puts = sum_of-append (only o) put rest in
        let gets = sum_of-append (only o) got rest in
        omega (arith, effect.charge o, effect.items o, was.charge o, puts, gets);
  }

  -- the worker is as busy as it was
  pub at_work_after : (rest : List ℕ) → IsOpen new → IsAtWork old (put ++ rest) before
      → IsAtWork new (got ++ rest) after
  at_work_after rest going was = record {
    hand = hand_after rest going was.hand;
    busy = busy_on before.book.account after.book.account effect.kept.share effect.kept.idle was.busy;
  }

  pub goes_on_after : after.pool ≡ before.pool → GoesOn before after
  goes_on_after pool = record {
    came = record {
      pool = pool;
      setup = effect.kept.setup;
      share = effect.kept.share;
      seen = λ o h. subst (λ (xs : List ℕ). Contains xs o) (sym effect.kept.seen) h;
    };
    idle = effect.kept.idle;
    finished = effect.kept.finished;
  }

-- what may be claimed because of what the worker has at hand
pub can_claim : {p : PairState} {besides : List ℕ} {w : Owner} (o : ℕ) → HasAtHand p besides w
    → MayClaim w.book.setup besides o → CanClaim w.book.setup o w.book.account
can_claim {p} {besides} {w} o hand may = ⊎_elim inl
    (λ by.
    let here = stands_times besides by.0 by.1 in
    inr (by.0, times_stands w.book.account.charge by.0 (omega (arith, here, hand.charge by.0)), by.2))
    may

module _ (old new : Owner) (pool : new.pool ≡ old.pool) (o found : ℕ) (is : new.book ≡ claimed o found old.book) where
  seen_is : new.book.account.seen ≡ old.book.account.seen ++ o ∷ []
  seen_is = ap (λ (c : Book). c.account.seen) is

  setup_is : new.book.setup ≡ old.book.setup
  setup_is = ap (λ (c : Book). c.setup) is

  charge_is : new.book.account.charge
      ≡ (if found == 0 then old.book.account.charge ++ o ∷ [] else old.book.account.charge)
  charge_is = ap (λ (c : Book). c.account.charge) is

  share_is : new.book.account.share ≡ old.book.account.share
  share_is = ap (λ (c : Book). c.account.share) is

  idle_is : new.book.account.idle ≡ old.book.account.idle
  idle_is = ap (λ (c : Book). c.account.idle) is

  claimed_goes_on : GoesOn old new
  claimed_goes_on = record {
    came = record {
      pool = pool;
      setup = setup_is;
      share = share_is;
      seen = λ x h. subst (λ xs. Contains xs x) (sym seen_is)
          (Contains-append_left old.book.account.seen (o ∷ []) x h);
    };
    idle = idle_is;
    finished = ap (λ (c : Book). c.account.finished) is;
  }

  claimed_busy : IsBusy old.book.account → IsBusy new.book.account
  claimed_busy = busy_on old.book.account new.book.account share_is idle_is

  saw_it : Contains new.book.account.seen o
  saw_it = subst (λ xs. Contains xs o) (sym seen_is) (Contains-push old.book.account.seen o)

  -- an object that was found white joins the charge
  white_at_hand : found ≡ 0 → (p : PairState) (besides : List ℕ) → HasAtHand p besides old
      → HasAtHand p (o ∷ besides) new
  white_at_hand white p besides was =
      let charge : new.book.account.charge ≡ old.book.account.charge ++ o ∷ [] =
      charge_is ∙ ap (λ t. cond t (old.book.account.charge ++ o ∷ []) old.book.account.charge)
      (eq-eqb found 0 white) in
      record {
        going = was.going;
        sized = subst (λ (e : Setup). AreOfSize e.size p) (sym setup_is) was.sized;
        held = λ i. ap (λ (c : Book). times i c.account.held) is ∙ was.held i;
        charge = λ x. omega (
          arith,
          ap (times x) charge,
          sum_of-append (only x) old.book.account.charge (o ∷ []),
          sum_of-append (only x) (o ∷ []) besides,
          was.charge x,
        );
      }

  -- an object that was found marked does not join the charge
  marked_at_hand : found ≢ 0 → (p : PairState) (besides : List ℕ) → HasAtHand p besides old
      → HasAtHand p besides new
  marked_at_hand marked p besides was =
      let charge : new.book.account.charge ≡ old.book.account.charge =
      charge_is ∙ ap (λ t. cond t (old.book.account.charge ++ o ∷ []) old.book.account.charge)
      (ne_eqb found 0 marked) in
      record {
        going = was.going;
        sized = subst (λ (e : Setup). AreOfSize e.size p) (sym setup_is) was.sized;
        held = λ i. ap (λ (c : Book). times i c.account.held) is ∙ was.held i;
        charge = λ x. ap (times x) charge ∙ was.charge x;
      }

  pub is_claimed : (p : PairState) (white : Bool) → (white ≡ true ↔ (found ≡ 0)) → IsClaimed o p old p new white
  is_claimed p true shows = record {
    goes_on = claimed_goes_on;
    saw = saw_it;
    at_work = λ besides was.
        record { hand = white_at_hand (shows.0 refl) p besides was.hand; busy = claimed_busy was.busy };
  }
  is_claimed p false shows =
      let marked = λ (white : found ≡ 0). false≢true (shows.1 white) in
      record {
        goes_on = claimed_goes_on;
        saw = saw_it;
        at_work = λ besides was.
            record { hand = marked_at_hand marked p besides was.hand; busy = claimed_busy was.busy };
      }

-- an object that the worker saw needs no step to be claimed
pub seen_claimed : (o : ℕ) (p : PairState) (w : Owner) → Contains w.book.account.seen o → IsClaimed o p w p w false
seen_claimed o p w seen = record { goes_on = goes_on_at_all w; saw = seen; at_work = λ besides was. was }

-- a worker that saw `o` saw each object of the list of only `o`
sees_one : (o : ℕ) (w : Owner) → Contains w.book.account.seen o → (x : ℕ) → Contains (o ∷ []) x
    → Contains w.book.account.seen x
sees_one o w saw x h = subst (Contains w.book.account.seen) (only_member o x h) saw

-- an object that was found marked is claimed, and nothing else changes
pub marked_claimed : {o : ℕ} {p q : PairState} {a b : Owner} {white : Bool} → white ≡ false
    → IsClaimed o p a q b white → AreClaimed (o ∷ []) p a q b
marked_claimed {o} {p} {q} {a} {b} marked claim =
    let none = subst (IsClaimed o p a q b) marked claim in
    record { goes_on = none.goes_on; saw = sees_one o b none.saw; at_work = none.at_work }

-- an object that was found white is at hand, besides those that were before
pub white_at_work : {o : ℕ} {p q : PairState} {a b : Owner} {white : Bool} (besides : List ℕ) → white ≡ true
    → IsClaimed o p a q b white → IsAtWork p besides a → IsAtWork q (o ∷ besides) b
white_at_work {o} {p} {q} {a} {b} besides is claim = (subst (IsClaimed o p a q b) is claim).at_work besides

-- a white object that was then put is claimed
pub white_claimed : {o : ℕ} {p q r : PairState} {a b c : Owner} {white : Bool} → white ≡ true
    → IsClaimed o p a q b white → IsPut o q b r c → AreClaimed (o ∷ []) p a r c
white_claimed {o} {c = c} is claim puts = record {
  goes_on = goes_on_again claim.goes_on puts.goes_on;
  saw = sees_one o c (puts.goes_on.came.seen o claim.saw);
  at_work = λ besides was. puts.at_work besides (white_at_work besides is claim was);
}

-- an object that the pair took in was put
pub is_put : {o : ℕ} {p q : PairState} (a b : Owner) → b.pool ≡ a.pool → CallEffect p a.book (o ∷ []) [] q b.book
    → IsOpen q
    → IsPut o p a q b
is_put a b pool effect going = record {
  goes_on = goes_on_after a b effect pool;
  at_work = λ besides. at_work_after a b effect besides going;
}

pub none_claimed : (p : PairState) (w : Owner) → AreClaimed [] p w p w
none_claimed p w = record {
  goes_on = goes_on_at_all w;
  saw = λ o h. absurd (omega (arith, h.1));
  at_work = λ besides was. was;
}

-- if some objects were claimed and then others, all were claimed
pub more_claimed : {xs ys : List ℕ} {p q r : PairState} {a b c : Owner} → AreClaimed xs p a q b → AreClaimed ys q b r c
    → AreClaimed (xs ++ ys) p a r c
more_claimed {xs} {ys} first next = record {
  goes_on = goes_on_again first.goes_on next.goes_on;
  saw = λ o h.
      ⊎_elim (λ k. next.goes_on.came.seen o (first.saw o k)) (next.saw o) (Contains-append_cases xs ys o h);
  at_work = λ besides was. next.at_work besides (first.at_work besides was);
}

-- the scanned object may be finished after all that it refers to was claimed, and then it is no longer at hand
module _ {o : ℕ} {p : PairState} {mid : Owner} (at_work : IsAtWork p (o ∷ []) mid) where
  charged : 0 < times o mid.book.account.charge
  charged = omega (arith, at_work.hand.charge o, only-same o o refl)

  pub may_finish : ((s : ℕ) → Contains mid.book.setup.pairs (o, s) → Contains mid.book.account.seen s)
      → CanFinish mid.book.setup o mid.book.account
  may_finish saw = (times_stands mid.book.account.charge o charged, saw)

  scanned : (new : Owner) → new.pool ≡ mid.pool → new.book ≡ finished o mid.book
      → WorksOn mid new × IsAtWork p [] new
  scanned new pool is =
      let setup = ap (λ (c : Book). c.setup) is in
      let share = ap (λ (c : Book). c.account.share) is in
      let idle = ap (λ (c : Book). c.account.idle) is in
      let before = mid.book.account.charge in (
        record {
          came = record {
            pool = pool;
            setup = setup;
            share = share;
            seen = λ x h. subst (λ xs. Contains xs x) (sym (ap (λ (c : Book). c.account.seen) is)) h;
          };
          idle = idle;
        },
        record {
          hand = record {
            going = at_work.hand.going;
            sized = subst (λ (e : Setup). AreOfSize e.size p) (sym setup) at_work.hand.sized;
            held = λ i. ap (λ (c : Book). times i c.account.held) is ∙ at_work.hand.held i;
            charge = λ x. ap (λ (c : Book). times x c.account.charge) is
                ∙ omega (arith, times-remove_one x o before charged, at_work.hand.charge x);
          };
          busy = busy_on mid.book.account new.book.account share idle at_work.busy;
        },
      )

-- an object that was at hand was finished, and the worker is at its pair
pub record IsScanned (o : ℕ) (old : Owner) (p : PairState) (new : Owner) : Type 0 where
  pub works_on : WorksOn old new
  pub at_work : IsAtWork p [] new
  pub finished : new.book.account.finished ≡ old.book.account.finished ++ o ∷ []

-- a worker that claims what an object refers to and then finishes the object has scanned it
pub claimed_and_finished : {o : ℕ} {xs : List ℕ} {p q : PairState} {a b : Owner} (c : Owner) → IsAtWork p (o ∷ []) a
    → AreClaimed xs p a q b → c.pool ≡ b.pool → c.book ≡ finished o b.book → IsScanned o a q c
claimed_and_finished {o} c was are pool is =
    let done = scanned (are.at_work (o ∷ []) was) c pool is in
    let last = ap (λ (k : Book). k.account.finished) is in
    record {
      works_on = works_on_again (works are.goes_on) done.0;
      at_work = done.1;
      finished = last ∙ ap (λ (ys : List ℕ). ys ++ o ∷ []) are.goes_on.finished;
    }

-- all that the scanned object refers to may be claimed
pub all_claimable : (o : ℕ) (nexts : List ℕ) (e : Setup) → ((s : ℕ) → Contains nexts s → Contains e.pairs (o, s))
    → All (MayClaim e (o ∷ [])) nexts
all_claimable o nexts e pairs =
    All-from_get_or (MayClaim e (o ∷ [])) nexts 0
    (λ k inside. inr (o, Contains-push [] o, pairs (get_or nexts k 0) (Contains-get_or nexts k 0 inside)))

-- an object that is at hand is an object of the graph
pub got_is_object : {o : ℕ} {p : PairState} {w : Owner} → IsAtWork p (o ∷ []) w
    → ((x : ℕ) → Contains w.book.account.charge x → x < w.book.setup.objects) → o < w.book.setup.objects
got_is_object {o} {p} {w} at_work within = within o (times_stands w.book.account.charge o (charged at_work))
