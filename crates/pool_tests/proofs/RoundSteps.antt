-- The state of a worker between the calls of a round.
use Rattle.std.proofs.Common.{◌≡◌, ◌≢◌, ◌↔◌, ℕ, Bool, false, IsTrue, ◌+◌, ◌<◌, List, [], ◌∷◌, ◌++◌, Option, All}
use Rattle.std.proofs.Common.{Contains, if◌then◌else◌, ◌==◌, cond, eq-eqb, ne_eqb, ap, sym, refl, subst, ◌∙◌, inl, inr}
use Rattle.std.proofs.Common.{arith}
use Rattle.std.proofs.lemmas.Bool.{false≢true}
use Rattle.std.proofs.lemmas.List.FromFn.{length-range_with_len, get_or-range_with_len}
use Rattle.tagged_index.specs.Head.{Head}
use Rattle.mark_core.specs.declared.which.Which.{Which}
use Rattle.mark_core.specs.declared.which.Which.TheVariants.{Full, Empty}
use Rattle.mark_core.specs.Lists.{times, only, remove_one, without}
use Rattle.mark_core.specs.World.{Setup}
use Rattle.mark_core.specs.Events.{CanClaim, CanFinish}
use Rattle.mark_core.proofs.Sums.{sum_of-append, only-same, remove_one-same, times-remove_one, times-without}
use Rattle.mark_core.proofs.Sums.{times_stands}
use Rattle.buffer_pool.specs.Book.{Book, loaded, link_loaded, failed, claimed, finished}
use Rattle.buffer_pool.specs.Calls.{Owner, HeldBuffer, MayPush, TriesPop, TriesPush}
use Rattle.pool_tests.specs.Rounds.{HasNone, HasOne, HasRoots, IsSameWorker, numbers}
use Rattle.buffer_pool.specs.declared.answers.TryPopped.TheVariants as try_pop
use Rattle.buffer_pool.specs.declared.answers.TryPushed.TheVariants as try_push

pub roots_below : (n : ℕ) → All (λ o. o < n) (numbers n)
unfolding numbers
roots_below n i d below = let k : i < n = omega (arith, below, length-range_with_len 0 n) in
    omega (arith, k, get_or-range_with_len 0 n i d k)

is_root : (n o : ℕ) → o < n → Contains (numbers n) o
unfolding numbers
is_root n o below = (
  o,
  omega (arith, below, length-range_with_len 0 n),
  omega (arith, get_or-range_with_len 0 n o o below),
)

pub same_worker : (w : Owner) → IsSameWorker w w
same_worker w = record { pool = refl; setup = refl; share = refl; idle = refl }

pub same_again : (a b c : Owner) → IsSameWorker a b → IsSameWorker b c → IsSameWorker a c
same_again a b c s t =
    record {
      pool = t.pool ∙ s.pool;
      setup = t.setup ∙ s.setup;
      share = t.share ∙ s.share;
      idle = t.idle ∙ s.idle;
    }

pub same_roots : (n : ℕ) (a b : Owner) → IsSameWorker a b → HasRoots n a → HasRoots n b
same_roots n a b s r =
    record {
      objects = ap (λ (e : Setup). e.objects) s.setup ∙ r.objects;
      roots = ap (λ (e : Setup). e.roots) s.setup ∙ r.roots;
      pairs = ap (λ (e : Setup). e.pairs) s.setup ∙ r.pairs;
    }

-- a list in which nothing stands is empty
nothing : (xs : List ℕ) → ((o : ℕ) → times o xs ≡ 0) → xs ≡ []
nothing [] none = refl
nothing (x ∷ xs) none = absurd (omega (arith, none x, only-same x x refl))

-- a load changes neither the setup, nor the share, the idle number, the buffers and the charge
pub record IsLook (old new : Book) : Type 0 where
  pub setup : new.setup ≡ old.setup
  pub share : new.account.share ≡ old.account.share
  pub idle : new.account.idle ≡ old.account.idle
  pub held : new.account.held ≡ old.account.held
  pub charge : new.account.charge ≡ old.account.charge

pub look_head : (q : Which) (head : Head) (b : Book) → IsLook b (loaded q head b)
look_head Full head b = record { setup = refl; share = refl; idle = refl; held = refl; charge = refl }
look_head Empty head b = record { setup = refl; share = refl; idle = refl; held = refl; charge = refl }

pub look_link : (q : Which) (head : Head) (link : Option ℕ) (b : Book) → IsLook b (link_loaded q link (loaded q head b))
look_link Full head link b = record { setup = refl; share = refl; idle = refl; held = refl; charge = refl }
look_link Empty head link b = record { setup = refl; share = refl; idle = refl; held = refl; charge = refl }

-- the charge after a claim of an object that was white, and of one that was marked
charge_white : (o found : ℕ) (xs : List ℕ) → found ≡ 0 → (if found == 0 then xs ++ o ∷ [] else xs) ≡ xs ++ o ∷ []
charge_white o found xs e = ap (λ t. cond t (xs ++ o ∷ []) xs) (eq-eqb found 0 e)

charge_marked : (o found : ℕ) (xs : List ℕ) → found ≢ 0 → (if found == 0 then xs ++ o ∷ [] else xs) ≡ xs
charge_marked o found xs n = ap (λ t. cond t (xs ++ o ∷ []) xs) (ne_eqb found 0 n)

module _ (old new : Owner) (pool : new.pool ≡ old.pool) where
  looked : (b : Book) → IsLook old.book b → new.book ≡ b → IsSameWorker old new
  looked b l is =
      record {
        pool = pool;
        setup = ap (λ (c : Book). c.setup) is ∙ l.setup;
        share = ap (λ (c : Book). c.account.share) is ∙ l.share;
        idle = ap (λ (c : Book). c.account.idle) is ∙ l.idle;
      }

  none_still : (b : Book) → IsLook old.book b → new.book ≡ b → HasNone old → HasNone new
  none_still b l is none =
      record {
        held = ap (λ (c : Book). c.account.held) is ∙ l.held ∙ none.held;
        charge = ap (λ (c : Book). c.account.charge) is ∙ l.charge ∙ none.charge;
        awake = ap (λ (c : Book). c.account.idle) is ∙ l.idle ∙ none.awake;
      }

  -- a pop took this buffer
  pub took : (q : Which) (h : HeldBuffer) → HasNone old → TriesPop q old.book new.book (try_pop.Took h)
      → IsSameWorker old new × HasOne new h
  took q h none p =
      let l = look_link q p.0 p.1 old.book in
      let setup : new.book.setup ≡ old.book.setup = ap (λ (c : Book). c.setup) p.5 ∙ l.setup in
      let idle : new.book.account.idle ≡ old.book.account.idle = ap (λ (c : Book). c.account.idle) p.5 ∙ l.idle in (
        record { pool = pool; setup = setup; share = ap (λ (c : Book). c.account.share) p.5 ∙ l.share; idle = idle },
        record {
          held = ap (λ (c : Book). c.account.held) p.5 ∙ ap (λ xs. xs ++ h.index ∷ []) (l.held ∙ none.held);
          charge = λ o. ap (λ (c : Book). times o c.account.charge) p.5
              ∙ ap (λ xs. times o (xs ++ h.items)) (l.charge ∙ none.charge);
          size = p.4 ∙ ap (λ e. e.size) (sym setup);
          awake = idle ∙ none.awake;
        },
      )

  pub found_none : (q : Which) → HasNone old → TriesPop q old.book new.book try_pop.Empty
      → IsSameWorker old new × HasNone new
  found_none q none p = let b = loaded q p.0 old.book in let l = look_head q p.0 old.book in
      (looked b l p.2, none_still b l p.2 none)

  pub lost_pop : (q : Which) → HasNone old → TriesPop q old.book new.book try_pop.Lost
      → IsSameWorker old new × HasNone new
  lost_pop q none p =
      let b = failed (link_loaded q p.2 (loaded q p.0 old.book)) in
      let k = look_link q p.0 p.2 old.book in
      let l : IsLook old.book b =
      record { setup = k.setup; share = k.share; idle = k.idle; held = k.held; charge = k.charge } in
      (looked b l p.5, none_still b l p.5 none)

  -- a push put this buffer on a stack
  pub done : (q : Which) (h : HeldBuffer) → HasOne old h → TriesPush q h old.book new.book try_push.Done
      → IsSameWorker old new × HasNone new
  done q h one p =
      let l = look_head q p.0 old.book in
      let before = (loaded q p.0 old.book).account in
      let now : (x : ℕ) → times x before.charge ≡ times x h.items = λ x. ap (times x) l.charge ∙ one.charge x in
      let gone : (o : ℕ) → times o (without h.items before.charge) ≡ 0 =
      λ o. omega (arith, now o, times-without h.items before.charge (λ x. omega (arith, now x)) o) in
      let idle : new.book.account.idle ≡ old.book.account.idle = ap (λ (c : Book). c.account.idle) p.2 ∙ l.idle in (
        record {
          pool = pool;
          setup = ap (λ (c : Book). c.setup) p.2 ∙ l.setup;
          share = ap (λ (c : Book). c.account.share) p.2 ∙ l.share;
          idle = idle;
        },
        record {
          held = ap (λ (c : Book). c.account.held) p.2 ∙ ap (remove_one h.index) (l.held ∙ one.held)
              ∙ remove_one-same h.index h.index [] refl;
          charge = ap (λ (c : Book). c.account.charge) p.2 ∙ nothing (without h.items before.charge) gone;
          awake = idle ∙ one.awake;
        },
      )

  -- a push was lost, and its buffer came back
  pub lost_push : (q : Which) (h back : HeldBuffer) → HasOne old h
      → TriesPush q h old.book new.book (try_push.Lost back) → IsSameWorker old new × HasOne new back × (back ≡ h)
  lost_push q h back one p =
      let k = look_head q p.0 old.book in
      let setup : new.book.setup ≡ old.book.setup = ap (λ (c : Book). c.setup) p.3 ∙ k.setup in
      let idle : new.book.account.idle ≡ old.book.account.idle = ap (λ (c : Book). c.account.idle) p.3 ∙ k.idle in (
        record { pool = pool; setup = setup; share = ap (λ (c : Book). c.account.share) p.3 ∙ k.share; idle = idle },
        subst (HasOne new) (sym p.1)
            (record {
              held = ap (λ (c : Book). c.account.held) p.3 ∙ k.held ∙ one.held;
              charge = λ o. ap (λ (c : Book). times o c.account.charge) p.3 ∙ ap (times o) k.charge ∙ one.charge o;
              size = one.size ∙ ap (λ e. e.size) (sym setup);
              awake = idle ∙ one.awake;
            }),
        p.1,
      )

  -- a claim of a white object, which went into the buffer
  pub put_in : (h : HeldBuffer) (o found : ℕ) → HasOne old h → new.book ≡ claimed o found old.book → found ≡ 0
      → HasOne new (record h { items = h.items ++ o ∷ [] })
  put_in h o found one is white =
      record {
        held = ap (λ (c : Book). c.account.held) is ∙ one.held;
        charge =
            λ x. ap (λ (c : Book). times x c.account.charge) is
            ∙ ap (times x) (charge_white o found old.book.account.charge white)
            ∙ sum_of-append (only x) old.book.account.charge (o ∷ [])
            ∙ ap (λ n. n + times x (o ∷ [])) (one.charge x) ∙ sym (sum_of-append (only x) h.items (o ∷ []));
        size = one.size ∙ ap (λ (c : Book). c.setup.size) (sym is);
        awake = ap (λ (c : Book). c.account.idle) is ∙ one.awake;
      }

  pub left_out : (h : HeldBuffer) (o found : ℕ) → HasOne old h → new.book ≡ claimed o found old.book → found ≢ 0
      → HasOne new h
  left_out h o found one is marked =
      record {
        held = ap (λ (c : Book). c.account.held) is ∙ one.held;
        charge = λ x. ap (λ (c : Book). times x c.account.charge) is
            ∙ ap (times x) (charge_marked o found old.book.account.charge marked) ∙ one.charge x;
        size = one.size ∙ ap (λ (c : Book). c.setup.size) (sym is);
        awake = ap (λ (c : Book). c.account.idle) is ∙ one.awake;
      }

  pub same_claimed : (o found : ℕ) → new.book ≡ claimed o found old.book → IsSameWorker old new
  same_claimed o found is =
      record {
        pool = pool;
        setup = ap (λ (c : Book). c.setup) is;
        share = ap (λ (c : Book). c.account.share) is;
        idle = ap (λ (c : Book). c.account.idle) is;
      }

  pub same_finished : (o : ℕ) → new.book ≡ finished o old.book → IsSameWorker old new
  same_finished o is =
      record {
        pool = pool;
        setup = ap (λ (c : Book). c.setup) is;
        share = ap (λ (c : Book). c.account.share) is;
        idle = ap (λ (c : Book). c.account.idle) is;
      }

  -- the object that was taken last out of the buffer is finished
  pub taken : (h rest : HeldBuffer) (o : ℕ) → HasOne old h → h.items ≡ rest.items ++ o ∷ []
      → rest ≡ record h { items = rest.items } → new.book ≡ finished o old.book → HasOne new rest
  taken h rest o one last same is =
      let before : (x : ℕ) → times x old.book.account.charge ≡ times x rest.items + times x (o ∷ []) =
      λ x. one.charge x ∙ ap (times x) last ∙ sum_of-append (only x) rest.items (o ∷ []) in
      let here : 0 < times o old.book.account.charge = omega (arith, before o, only-same o o refl) in
      record {
        held = ap (λ (c : Book). c.account.held) is ∙ one.held ∙ ap (λ (k : HeldBuffer). k.index ∷ []) (sym same);
        charge = λ x. ap (λ (c : Book). times x c.account.charge) is
            ∙ omega (arith, times-remove_one x o old.book.account.charge here, before x);
        size = ap (λ (k : HeldBuffer). k.size) same ∙ one.size ∙ ap (λ (c : Book). c.setup.size) (sym is);
        awake = ap (λ (c : Book). c.account.idle) is ∙ one.awake;
      }

pub not_white : (b : Bool) (found : ℕ) → (IsTrue b ↔ (found ≡ 0)) → b ≡ false → found ≢ 0
not_white b found white is zero = false≢true (sym is ∙ white.1 zero)

-- no object has a successor
no_pair : (n : ℕ) (w : Owner) → HasRoots n w → (o s : ℕ) → Contains w.book.setup.pairs (o, s) → ⊥
no_pair n w roots o s pair =
    let k : Contains [] (o, s) = subst (λ (ps : List (ℕ × ℕ)). Contains ps (o, s)) roots.pairs pair in
    omega (arith, k.1)

pub may_finish : (n : ℕ) (w : Owner) (h rest : HeldBuffer) (o : ℕ) → HasRoots n w → HasOne w h
    → h.items ≡ rest.items ++ o ∷ [] → CanFinish w.book.setup o w.book.account
may_finish n w h rest o roots one last =
    (times_stands w.book.account.charge o here, λ s pair. absurd (no_pair n w roots o s pair))
  where
    here : 0 < times o w.book.account.charge
    here = omega
        (arith, one.charge o, ap (times o) last, sum_of-append (only o) rest.items (o ∷ []), only-same o o refl)

-- an object that was white and is claimed now
pub claimed_finishable :
    (n : ℕ) (old new : Owner) (o found : ℕ) → HasRoots n new → new.book ≡ claimed o found old.book → found ≡ 0
    → CanFinish new.book.setup o new.book.account
claimed_finishable n old new o found roots is white =
    (times_stands new.book.account.charge o here, λ s pair. absurd (no_pair n new roots o s pair))
  where
    here : 0 < times o new.book.account.charge
    here =
        omega (
          arith,
          ap (λ (c : Book). times o c.account.charge) is,
          ap (times o) (charge_white o found old.book.account.charge white),
          sum_of-append (only o) old.book.account.charge (o ∷ []),
          only-same o o refl,
        )

pub may_claim : (n : ℕ) (w : Owner) (o : ℕ) → HasRoots n w → o < n → CanClaim w.book.setup o w.book.account
may_claim n w o roots below = inl (subst (λ (rs : List ℕ). Contains rs o) (sym roots.roots) (is_root n o below))

pub may_push : (q : Which) (w : Owner) (h : HeldBuffer) → HasOne w h → (q ≡ Empty → h.items ≡ []) → MayPush q h w.book
may_push q w h one bare =
    record {
      held = times_stands w.book.account.held h.index
          (omega (arith, ap (times h.index) one.held, only-same h.index h.index refl));
      size = one.size;
      charged = λ o. omega (arith, one.charge o);
      bare = bare;
      busy = λ _. inr one.awake;
    }
