-- The state of a worker after the calls of a small run.
use Rattle.std.proofs.Common.{◌≡◌, ℕ, List, [], ◌∷◌, ◌++◌, length, Contains, ap, sym, refl, subst, ◌∙◌, inr, arith}
use Rattle.std.proofs.lemmas.List.{nil_from_length}
use Rattle.mark_core.specs.declared.which.Which.{Which}
use Rattle.mark_core.specs.Events.{CanClaim}
use Rattle.mark_core.specs.Lists.{times, remove_one, without}
use Rattle.mark_core.specs.World.{Setup}
use Rattle.buffer_pool.specs.Book.{Book, loaded, link_loaded, failed, popped, pushed, finished}
use Rattle.buffer_pool.specs.Calls.{Owner, HeldBuffer, LostPops, LostPushes, MayPush, Pops, Pushes}
use Rattle.buffer_pool.specs.Calls.LostPops.{none as no_pop, more as more_pops}
use Rattle.buffer_pool.specs.Calls.LostPushes.{none as no_push, more as more_pushes}
use Rattle.pool_tests.specs.Worked.{Holds, bare, root_finished}
use Rattle.buffer_pool.specs.declared.answers.Popped.TheVariants as pop
use Rattle.buffer_pool.specs.declared.answers.TryPushed.TheVariants as try_push
use Rattle.pool_tests.proofs.RoundSteps.{IsLook, look_head, look_link}

look_same : (b : Book) → IsLook b b
look_same b = record { setup = refl; share = refl; idle = refl; held = refl; charge = refl }

pub look_then : (a b c : Book) → IsLook a b → IsLook b c → IsLook a c
look_then a b c first second =
    record {
      setup = second.setup ∙ first.setup;
      share = second.share ∙ first.share;
      idle = second.idle ∙ first.idle;
      held = second.held ∙ first.held;
      charge = second.charge ∙ first.charge;
    }

pub look_failed : (a b c : Book) → IsLook a b → c ≡ failed b → IsLook a c
look_failed a b c look is =
    let same : IsLook a (failed b) =
    record { setup = look.setup; share = look.share; idle = look.idle; held = look.held; charge = look.charge } in
    subst (IsLook a) (sym is) same

-- tries that were lost only look
pub lost_pops : (q : Which) (old new : Book) → LostPops q old new → IsLook old new
lost_pops q old new (no_pop b) = look_same b
lost_pops q old new (more_pops a mid b before last) =
    look_then a mid b (lost_pops q a mid before)
    (look_failed mid (link_loaded q last.2 (loaded q last.0 mid)) b (look_link q last.0 last.2 mid) last.5)

lost_pushes : (q : Which) (h : HeldBuffer) (old new : Book) → LostPushes q h old new → IsLook old new
lost_pushes q h old new (no_push b) = look_same b
lost_pushes q h old new (more_pushes a mid b before last) =
    look_then a mid b (lost_pushes q h a mid before)
    (look_failed mid (loaded q last.0 mid) b (look_head q last.0 mid) last.3)

module _ (old new : Owner) (n : ℕ) (list : List ℕ) (was : Holds n list old) where
  -- a buffer without items was popped
  pub pops_bare :
      (q : Which) (h : HeldBuffer) (wanted : ℕ) → Pops q old.book new.book (pop.Took h) → h.index ≡ wanted
      → length h.items ≡ 0
      → Holds n (list ++ wanted ∷ []) new × (h ≡ bare n wanted)
  pops_bare q h wanted p index none = (
    record {
      held = ap (λ (b : Book). b.account.held) is ∙ (λ k. (look.held ∙ was.held) k ++ index k ∷ []);
      charge = ap (λ (b : Book). b.account.charge) is ∙ (λ k. (look.charge ∙ was.charge) k ++ items k);
      room = ap (λ (b : Book). b.setup.size) is ∙ ap (λ (e : Setup). e.size) look.setup ∙ was.room;
      awake = ap (λ (b : Book). b.account.idle) is ∙ look.idle ∙ was.awake;
    },
    (λ k. record { index = index k; items = items k; size = size k }),
  )
    where
      mid : Book
      mid = p.0

      lost : IsLook old.book mid
      lost = lost_pops q old.book mid p.1

      looked : Book
      looked = link_loaded q p.2.1 (loaded q p.2.0 mid)

      look : IsLook old.book looked
      look = look_then old.book mid looked lost (look_link q p.2.0 p.2.1 mid)

      is : new.book ≡ popped h.index h.items looked
      is = p.2.5

      items : h.items ≡ []
      items = nil_from_length h.items none

      size : h.size ≡ n
      size = p.2.4 ∙ ap (λ (e : Setup). e.size) lost.setup ∙ was.room

  -- a buffer without items was pushed
  pub pushes_bare : (q : Which) (h : HeldBuffer) → Pushes q h old.book new.book try_push.Done → h.items ≡ []
      → Holds n (remove_one h.index list) new
  pushes_bare q h p none =
      record {
        held = ap (λ (b : Book). b.account.held) is ∙ ap (remove_one h.index) (look.held ∙ was.held);
        charge = ap (λ (b : Book). b.account.charge) is ∙ (λ k. without (none k) ((look.charge ∙ was.charge) k));
        room = ap (λ (b : Book). b.setup.size) is ∙ ap (λ (e : Setup). e.size) look.setup ∙ was.room;
        awake = ap (λ (b : Book). b.account.idle) is ∙ look.idle ∙ was.awake;
      }
    where
      mid : Book
      mid = p.0

      head_loaded : Book
      head_loaded = loaded q p.2.0 mid

      look : IsLook old.book head_loaded
      look = look_then old.book mid head_loaded (lost_pushes q h old.book mid p.1) (look_head q p.2.0 mid)

      is : new.book ≡ pushed q h.index h.items head_loaded
      is = p.2.2

pub may_push_bare :
    (q : Which) (w : Owner) (n : ℕ) (list : List ℕ) (h : HeldBuffer) → Holds n list w → Contains list h.index
    → h ≡ bare n h.index → MayPush q h w.book
may_push_bare q w n list h was here is =
    record {
      held = subst (λ xs. Contains xs h.index) (sym was.held) here;
      size = ap (λ (l : HeldBuffer). l.size) is ∙ sym was.room;
      charged = λ x. omega (arith, ap (λ (l : HeldBuffer). times x l.items) is);
      bare = λ empty. ap (λ (l : HeldBuffer). l.items) is;
      busy = λ _. inr was.awake;
    }

-- a buffer of this number is one of its own number
pub by_number : (n i : ℕ) (list : List ℕ) (h : HeldBuffer) → h ≡ bare n i → Contains list i → Contains list h.index
    × (h ≡ bare n h.index)
by_number n i list h is here = let index : h.index ≡ i = ap (λ (l : HeldBuffer). l.index) is in
    (subst (Contains list) (sym index) here, is ∙ ap (bare n) (sym index))

-- object 2 is answered for and refers to the class
pub may_claim_again : (b : Book) → b ≡ finished 0 root_finished → CanClaim b.setup 0 b.account
may_claim_again b is = subst (λ (x : Book). CanClaim x.setup 0 x.account) (sym is)
    (inr (2, (0, omega arith, refl), (2, omega arith, refl)))
