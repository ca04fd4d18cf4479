-- A worker that goes idle, loads the idle word and the full head, and comes back: it keeps what it had at each
-- step.
use Rattle.drain.proofs.Words.{AreOfSize, Book, Bool, CameFrom, CanIdle, Contains, HasAtHand, HasNoneLeft, Owner}
use Rattle.drain.proofs.Words.{IsAtWork, IsAwake, List, PairState, Sees, Setup, [], ap, arith, false, false≢true}
use Rattle.drain.proofs.Words.{idle_loaded, idled, inr, is_none, is_some, loaded, pair_items, refl, subst, sym, times}
use Rattle.drain.proofs.Words.{true, woken, ℕ, ◌&&◌, ◌+◌, ◌||◌, ◌↔◌, ◌∙◌, ◌≡◌, ◌≢◌}
use Rattle.mark_core.specs.declared.which.Which.TheVariants.{Full}
use Rattle.drain.specs.working.Idle.{TurnsInVain, WaitsInVain}
use Rattle.drain.specs.working.Idle.WaitsInVain.{more as one_more_vain, none as none_vain}
use Rattle.drain.proofs.AtHand.{came_again, came_at_all, nothing}

-- the worker has what it had, has no open push, and found the full stack empty
pub record IsStill (begun w : Owner) : Type 0 where
  pub came : CameFrom begun w
  pub held : w.book.account.held ≡ begun.book.account.held
  pub charge : w.book.account.charge ≡ begun.book.account.charge
  pub finished : w.book.account.finished ≡ begun.book.account.finished
  pub open_push : w.book.account.open_push ≡ false
  pub found : w.book.account.found ≡ true

-- the worker is idle, and has what it had
pub record IsIdling (begun w : Owner) : Type 0 where
  pub still : IsStill begun w
  pub idle : w.book.account.idle ≡ 1

-- a worker without items may go idle
pub may_idle : {p : PairState} {w : Owner} → IsAwake w → HasAtHand p [] w → HasNoneLeft p w → CanIdle w.book.account
may_idle {w = w} awake hand none =
    let uncharged = nothing w.book.account.charge (λ o. omega (arith, hand.charge o, ap (times o) none.0)) in
    (awake.share, awake.idle, uncharged, none.2)

-- a worker that is not idle is at work
pub awake_at_work : {p : PairState} {w : Owner} → IsAwake w → HasAtHand p [] w → IsAtWork p [] w
awake_at_work awake hand = record { hand = hand; busy = inr awake.idle }

-- the worker still has its pair, without items
module _ {p q : PairState} {begun w : Owner} (same : q ≡ p) (still : IsStill begun w) where
  pub hand_still : HasAtHand p [] begun → HasAtHand q [] w
  hand_still was =
      subst (λ (r : PairState). HasAtHand r [] w) (sym same) (record {
        going = was.going;
        sized = subst (λ (e : Setup). AreOfSize e.size p) (sym still.came.setup) was.sized;
        held = λ i. ap (times i) still.held ∙ was.held i;
        charge = λ o. ap (times o) still.charge ∙ was.charge o;
      })

  pub none_still : HasNoneLeft p begun → HasNoneLeft q w
  none_still was = (ap pair_items same ∙ was.0, still.open_push, still.found)

module _ {old : Owner} (new : Owner) (pool : new.pool ≡ old.pool) where
  -- a book with the same setup, share, buffers, charge, and seen and finished objects
  module _ (b : Book) (is : new.book ≡ b) (setup : b.setup ≡ old.book.setup)
      (share : b.account.share ≡ old.book.account.share) (held : b.account.held ≡ old.book.account.held)
      (charge : b.account.charge ≡ old.book.account.charge) (seen : b.account.seen ≡ old.book.account.seen)
      (finished : b.account.finished ≡ old.book.account.finished) where
    came_after : CameFrom old new
    came_after = record {
      pool = pool;
      setup = ap (λ (c : Book). c.setup) is ∙ setup;
      share = ap (λ (c : Book). c.account.share) is ∙ share;
      seen = λ o h. subst (λ (xs : List ℕ). Contains xs o) (sym (ap (λ (c : Book). c.account.seen) is ∙ seen)) h;
    }

    still_after : {begun : Owner} → IsStill begun old → b.account.open_push ≡ false → b.account.found ≡ true
        → IsStill begun new
    still_after was closed found = record {
      came = came_again was.came came_after;
      held = ap (λ (c : Book). c.account.held) is ∙ held ∙ was.held;
      charge = ap (λ (c : Book). c.account.charge) is ∙ charge ∙ was.charge;
      finished = ap (λ (c : Book). c.account.finished) is ∙ finished ∙ was.finished;
      open_push = ap (λ (c : Book). c.account.open_push) is ∙ closed;
      found = ap (λ (c : Book). c.account.found) is ∙ found;
    }

  module _ {begun : Owner} (was : IsIdling begun old) where
    -- it loads the idle word
    pub sees_idle : (word : ℕ) → new.book ≡ idle_loaded word old.book → IsIdling begun new
    sees_idle word is =
        let b = idle_loaded word old.book in
        record {
          still = still_after b is refl refl refl refl refl refl was.still was.still.open_push was.still.found;
          idle = ap (λ (c : Book). c.account.idle) is ∙ was.idle;
        }

    -- it loads the head of the full stack
    pub sees_full : (answer : Bool) → Sees Full old.book new.book answer → IsIdling begun new
    sees_full answer sees =
        let b = loaded Full sees.head old.book in
        let closed = ap (λ (was_open : Bool). was_open && is_some sees.head.index) was.still.open_push in
        let found = ap (λ (was_found : Bool). was_found || is_none sees.head.index) was.still.found in
        record {
          still = still_after b sees.book refl refl refl refl refl refl was.still closed found;
          idle = ap (λ (c : Book). c.account.idle) sees.book ∙ was.idle;
        }

    -- it comes back
    pub still_back : new.book ≡ woken old.book → IsStill begun new
    still_back is =
        still_after (woken old.book) is refl refl refl refl refl refl was.still was.still.open_push was.still.found

    pub awake_back : IsAwake begun → new.book ≡ woken old.book → IsAwake new
    awake_back awake is = record {
      share = (still_back is).came.share ∙ awake.share;
      idle = omega (arith, ap (λ (c : Book). c.account.idle) is, was.idle);
    }

-- it goes idle
pub goes_idle : (p : PairState) {old : Owner} (new : Owner) → new.pool ≡ old.pool → new.book ≡ idled old.book
    → IsAwake old → HasNoneLeft p old → IsIdling old new
goes_idle p {old} new pool is awake none =
    let still : IsStill old old =
    record {
      came = came_at_all old;
      held = refl;
      charge = refl;
      finished = refl;
      open_push = none.1;
      found = none.2;
    }
    in
    record {
      still = still_after new pool (idled old.book) is refl refl refl refl refl refl still none.1 none.2;
      idle = omega (arith, ap (λ (c : Book). c.account.idle) is, awake.idle);
    }

-- it has made no turn yet
pub no_turn : (workers : ℕ) (begun : Book) {now : Book} → now ≡ idled begun → WaitsInVain workers 0 (idled begun) now
no_turn workers begun is = subst (WaitsInVain workers 0 (idled begun)) (sym is) (none_vain (idled begun))

-- a load of the idle word that did not show all workers idle
pub not_all_idle : {all : Bool} {word workers : ℕ} → all ≡ false → (all ≡ true ↔ (word ≡ workers)) → word ≢ workers
not_all_idle other shows same = false≢true (sym other ∙ shows.1 same)

-- and then a load of the full head, stated of the book before both
pub sees_after : {answer other : Bool} (word : ℕ) (old : Book) {mid new : Book} → mid ≡ idle_loaded word old
    → answer ≡ other → Sees Full mid new answer → Sees Full (idle_loaded word old) new other
sees_after {other = other} word old {mid} {new} is same sees =
    subst (λ (b : Book). Sees Full b new other) is (subst (λ (a : Bool). Sees Full mid new a) same sees)

-- one more turn in vain
pub one_more_turn : {workers turn : ℕ} {begun old new : Book} → WaitsInVain workers turn begun old
    → TurnsInVain workers old new → WaitsInVain workers (turn + 1) begun new
one_more_turn {turn = turn} {begun = begun} {old = old} {new = new} so_far vain =
    one_more_vain turn begun old new so_far vain
