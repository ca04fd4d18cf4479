-- The leader while it passes units to workers and takes workers in.
use Rattle.drain.proofs.Words.{AreOfSize, Book, Contains, Contains-append_left, HasAtHand, Owner, IsAtWork, IsAwake}
use Rattle.drain.proofs.Words.{IsBusy, IsFree, Leads, List, PairState, Setup, [], ap, arith, inl, joined, new_book}
use Rattle.drain.proofs.Words.{only, parted, refl, subst, sum_of-append, sym, times, ℕ, ◌++◌, ◌<◌, ◌||◌, ◌∙◌, ◌≡◌}

pub leads_at_all : (w : Owner) → Leads w w
leads_at_all w = record {
  pool = refl;
  setup = refl;
  seen = λ o h. h;
  held = λ i. refl;
  charge = λ o. refl;
  pushed = refl;
}

pub leads_again : {a b c : Owner} → Leads a b → Leads b c → Leads a c
leads_again s t = record {
  pool = t.pool ∙ s.pool;
  setup = t.setup ∙ s.setup;
  seen = λ o h. t.seen o (s.seen o h);
  held = λ i. t.held i ∙ s.held i;
  charge = λ o. t.charge o ∙ s.charge o;
  pushed = t.pushed ∙ s.pushed;
}

-- a leader that gave units away still leads
pub gave_away : (old new : Owner) (units : ℕ) → new.pool ≡ old.pool → new.book ≡ parted units old.book → Leads old new
gave_away old new units pool is = record {
  pool = pool;
  setup = ap (λ (b : Book). b.setup) is;
  seen = λ o h. subst (λ (xs : List ℕ). Contains xs o) (sym (ap (λ (b : Book). b.account.seen) is)) h;
  held = λ i. ap (λ (b : Book). times i b.account.held) is;
  charge = λ o. ap (λ (b : Book). times o b.account.charge) is;
  pushed = ap (λ (b : Book). b.account.pushed) is;
}

-- a leader that took in a free worker still leads
pub took_in : (old other new : Owner) → new.pool ≡ old.pool → new.book ≡ joined old.book other.book → IsFree other
    → Leads old new
took_in old other new pool is free = record {
  pool = pool;
  setup = ap (λ (b : Book). b.setup) is;
  seen = λ o h. subst (λ (xs : List ℕ). Contains xs o) (sym (ap (λ (b : Book). b.account.seen) is))
      (Contains-append_left old.book.account.seen other.book.account.seen o h);
  held = λ i. omega (
    arith,
    ap (λ (b : Book). times i b.account.held) is,
    sum_of-append (only i) old.book.account.held other.book.account.held,
    ap (times i) free.held,
  );
  charge = λ o. omega (
    arith,
    ap (λ (b : Book). times o b.account.charge) is,
    sum_of-append (only o) old.book.account.charge other.book.account.charge,
    ap (times o) free.charge,
  );
  pushed = ap (λ (b : Book). b.account.pushed) is;
}

-- a leader that took in a free worker is free if it was free before
pub joined_free : (old other new : Owner) → new.book ≡ joined old.book other.book → IsFree old → IsFree other
    → IsFree new
joined_free old other new is free other_free = record {
  held = ap (λ (b : Book). b.account.held) is ∙ (λ k. free.held k ++ other_free.held k);
  charge = ap (λ (b : Book). b.account.charge) is ∙ (λ k. free.charge k ++ other_free.charge k);
  open_push = ap (λ (b : Book). b.account.open_push) is ∙ (λ k. free.open_push k || other_free.open_push k);
}

-- a leader that leads has the same pair at hand
leads_hand : {p : PairState} {old new : Owner} → Leads old new → HasAtHand p [] old → HasAtHand p [] new
leads_hand {p} leads was = record {
  going = was.going;
  sized = subst (λ (e : Setup). AreOfSize e.size p) (sym leads.setup) was.sized;
  held = λ i. leads.held i ∙ was.held i;
  charge = λ o. leads.charge o ∙ was.charge o;
}

-- a worker with several units is busy, whatever its idle number
pub several_busy : (w : Owner) → 1 < w.book.account.share → IsBusy w.book.account
several_busy w several = inl (λ one. omega (arith, several, one))

-- a leader is at work again once it has several units
pub leads_on : {p : PairState} {old new : Owner} → Leads old new → 1 < new.book.account.share → HasAtHand p [] old
    → IsAtWork p [] new
leads_on {new = new} leads several was = record { hand = leads_hand leads was; busy = several_busy new several }

-- a worker that was just made with one unit is not idle
pub new_awake : (w : Owner) (e : Setup) → w.book ≡ new_book e 1 → IsAwake w
new_awake w e is = record {
  share = ap (λ (b : Book). b.account.share) is;
  idle = ap (λ (b : Book). b.account.idle) is;
}

-- a worker that was just made is free
pub new_free : (w : Owner) (e : Setup) (units : ℕ) → w.book ≡ new_book e units → IsFree w
new_free w e units is = record {
  held = ap (λ (b : Book). b.account.held) is;
  charge = ap (λ (b : Book). b.account.charge) is;
  open_push = ap (λ (b : Book). b.account.open_push) is;
}
