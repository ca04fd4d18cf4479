-- Which objects are roots, what a worker has seen, and what it may push after a pop.
use Rattle.std.proofs.Common.{◌≡◌, ℕ, Bool, true, false, ◌+◌, ◌<◌, ◌≤◌, [], ◌∷◌, ◌++◌, All, Contains, ap, subst, sym}
use Rattle.std.proofs.Common.{refl, ◌∙◌, inl, inr, ⊎_elim, arith, below_more}
use Rattle.std.proofs.lemmas.List.FromFn.{length-range_with_len, get_or-range_with_len}
use Rattle.std.proofs.lemmas.List.Elements.{Contains-append_left, Contains-append_right}
use Rattle.mark_core.specs.declared.which.Which.TheVariants.{Empty}
use Rattle.mark_core.specs.Lists.{times}
use Rattle.mark_core.specs.Events.{CanClaim}
use Rattle.buffer_pool.specs.Book.{Book, claimed}
use Rattle.buffer_pool.specs.Calls.{Owner, HeldBuffer, LostPops, LostPushes, MayPush, Pops, Pushes}
use Rattle.buffer_pool.specs.Calls.LostPops.{none as no_pop, more as more_pops}
use Rattle.buffer_pool.specs.Calls.LostPushes.{none as no_push, more as more_pushes}
use Rattle.buffer_pool.specs.declared.answers.Popped.{Popped}
use Rattle.buffer_pool.specs.declared.answers.Popped.TheVariants as pop
use Rattle.buffer_pool.specs.declared.answers.TryPushed.{TryPushed}
use Rattle.buffer_pool.specs.declared.answers.TryPushed.TheVariants as try_push
use Rattle.pool_bench.specs.Owners.{AreRoots, HasSeen, PopsAndPushes, SamePool, numbers}

pub roots_below : (n : ℕ) → All (λ o. o < n) (numbers n)
unfolding numbers
roots_below n i d below = let k : i < n = omega (arith, below, length-range_with_len 0 n) in
    omega (arith, k, get_or-range_with_len 0 n i d k)

pub is_number : (n o : ℕ) → o < n → Contains (numbers n) o
unfolding numbers
is_number n o below = (
  o,
  omega (arith, below, length-range_with_len 0 n),
  omega (arith, get_or-range_with_len 0 n o o below),
)

pub same_roots : (n : ℕ) (a b : Owner) → SamePool a b → AreRoots n a → AreRoots n b
same_roots n a b s r o below = subst (λ rs. Contains rs o) (ap (λ e. e.roots) (sym s.setup)) (r o below)

pub may_claim : (n o : ℕ) (w : Owner) → AreRoots n w → o < n → CanClaim w.book.setup o w.book.account
may_claim n o w r below = inl (r o below)

-- a claim adds one object to those that the worker has seen
pub one_more_seen : (from o found : ℕ) (old new : Owner) → new.book ≡ claimed o found old.book → HasSeen from o old
    → HasSeen from (o + 1) new
one_more_seen from o found old new is seen x low high =
    subst (λ (b : Book). Contains b.account.seen x) (sym is) (below_more Now o earlier last x high low)
  where
    Now : ℕ → Type 0
    Now k = from ≤ k → Contains (old.book.account.seen ++ o ∷ []) k

    earlier : (k : ℕ) → k < o → Now k
    earlier k h l = Contains-append_left old.book.account.seen (o ∷ []) k (seen k l h)

    last : Now o
    last l = Contains-append_right old.book.account.seen (o ∷ []) o (0, omega arith, refl)

-- lost pops from the empty stack and lost pushes on it keep the idle number
lost_pops : (old new : Book) → LostPops Empty old new → new.account.idle ≡ old.account.idle
lost_pops old new (no_pop b) = refl
lost_pops old new (more_pops a mid b before last) =
    ap (λ (c : Book). c.account.idle) last.5 ∙ lost_pops a mid before

lost_pushes : (h : HeldBuffer) (old new : Book) → LostPushes Empty h old new → new.account.idle ≡ old.account.idle
lost_pushes h old new (no_push b) = refl
lost_pushes h old new (more_pushes a mid b before last) =
    ap (λ (c : Book). c.account.idle) last.3 ∙ lost_pushes h a mid before

pub after_pops :
    (old new : Book) (answer : Popped HeldBuffer) → Pops Empty old new answer → old.account.idle ≡ 0
    → new.account.idle ≡ 0
after_pops old new (pop.Took h) p awake =
    ap (λ (c : Book). c.account.idle) p.2.5 ∙ lost_pops old p.0 p.1 ∙ awake
after_pops old new pop.Empty p awake = ap (λ (c : Book). c.account.idle) p.2.2 ∙ lost_pops old p.0 p.1 ∙ awake
after_pops old new pop.Spent p awake = ap (λ (c : Book). c.account.idle) p.2.4 ∙ lost_pops old p.0 p.1 ∙ awake

pub after_pushes :
    (h : HeldBuffer) (old new : Book) (last : TryPushed HeldBuffer) → Pushes Empty h old new last
    → old.account.idle ≡ 0 → new.account.idle ≡ 0
after_pushes h old new try_push.Done p awake =
    ap (λ (c : Book). c.account.idle) p.2.2 ∙ lost_pushes h old p.0 p.1 ∙ awake
after_pushes h old new (try_push.Lost back) p awake =
    ap (λ (c : Book). c.account.idle) p.2.3 ∙ lost_pushes h old p.0 p.1 ∙ awake
after_pushes h old new (try_push.Spent back) p awake =
    ap (λ (c : Book). c.account.idle) p.2.3 ∙ lost_pushes h old p.0 p.1 ∙ awake

-- the idle number is 0 after a turn, if it was 0 before
pub after_turn :
    (old new : Book) (moved : Bool) → PopsAndPushes old new moved → old.account.idle ≡ 0 → new.account.idle ≡ 0
after_turn old new true p awake =
    after_pushes p.1 p.0 new try_push.Done p.3 (after_pops old p.0 (pop.Took p.1) p.2 awake)
after_turn old new false p awake =
    ⊎_elim (λ none. after_pops old new pop.Empty none awake)
    (λ rest.
    ⊎_elim (λ spent. after_pops old new pop.Spent spent awake)
    (λ q. after_pushes q.1 q.0 new (try_push.Spent q.2) q.4 (after_pops old q.0 (pop.Took q.1) q.3 awake)) rest) p

-- a buffer popped from the empty stack has no items, so it may be pushed there
pub may_push :
    (old new : Book) (h : HeldBuffer) → Pops Empty old new (pop.Took h) → old.account.idle ≡ 0
    → MayPush Empty h new
may_push old new h p awake =
    let q = p.2 in
    record {
      held = subst (λ (b : Book). Contains b.account.held h.index) (sym q.5)
          (Contains-append_right p.0.account.held (h.index ∷ []) h.index (0, omega arith, refl));
      size = q.4 ∙ ap (λ (b : Book). b.setup.size) (sym q.5);
      charged = λ x. let none : times x h.items ≡ 0 = ap (times x) (q.6 refl) in omega (arith, none);
      bare = q.6;
      busy = λ _. inr (after_pops old new (pop.Took h) p awake);
    }
