-- The state of a worker that takes one buffer at a time, without items.
use Rattle.std.proofs.Common.{◌≡◌, ℕ, List, [], ◌∷◌, ◌++◌, length, Contains, ap, refl, subst, sym, ◌∙◌, arith}
use Rattle.mark_core.specs.declared.which.Which.{Which}
use Rattle.mark_core.specs.Lists.{remove_one}
use Rattle.mark_core.specs.World.{Setup}
use Rattle.mark_core.proofs.Sums.{remove_one-same}
use Rattle.buffer_pool.specs.Book.{loaded, link_loaded}
use Rattle.buffer_pool.specs.Calls.{Owner, HeldBuffer, TriesPop, Pops}
use Rattle.buffer_pool.specs.Calls.LostPops.{none as no_pop}
use Rattle.pool_tests.specs.Worked.{Holds, bare}
use Rattle.buffer_pool.specs.declared.answers.TryPopped.TheVariants as try_pop
use Rattle.buffer_pool.specs.declared.answers.Popped.TheVariants as pop
use Rattle.pool_tests.proofs.RoundSteps.{IsLook, look_head, look_link}
use Rattle.pool_tests.proofs.SmallRuns.{look_failed, look_then, lost_pops, pops_bare}

-- a worker that only looked has what it had
holds_still : (old new : Owner) (n : ℕ) (list : List ℕ) → IsLook old.book new.book → Holds n list old
    → Holds n list new
holds_still old new n list look was =
    record {
      held = look.held ∙ was.held;
      charge = look.charge ∙ was.charge;
      room = ap (λ (e : Setup). e.size) look.setup ∙ was.room;
      awake = look.idle ∙ was.awake;
    }

module _ (old new : Owner) (n : ℕ) (list : List ℕ) (was : Holds n list old) where
  pub found_nothing : (q : Which) → Pops q old.book new.book pop.Empty → Holds n list new
  found_nothing q p =
      let looked : IsLook p.0 new.book = subst (IsLook p.0) (sym p.2.2) (look_head q p.2.0 p.0) in
      holds_still old new n list (look_then old.book p.0 new.book (lost_pops q old.book p.0 p.1) looked) was

  pub tried_nothing : (q : Which) → TriesPop q old.book new.book try_pop.Empty → Holds n list new
  tried_nothing q p = holds_still old new n list (subst (IsLook old.book) (sym p.2) (look_head q p.0 old.book)) was

  pub lost_try : (q : Which) → TriesPop q old.book new.book try_pop.Lost → Holds n list new
  lost_try q p = holds_still old new n list
      (look_failed old.book (link_loaded q p.2 (loaded q p.0 old.book)) new.book (look_link q p.0 p.2 old.book) p.5) was

  pub took_at_last : (q : Which) (h : HeldBuffer) → Pops q old.book new.book (pop.Took h) → length h.items ≡ 0
      → Holds n (list ++ h.index ∷ []) new × (h ≡ bare n h.index)
  took_at_last q h p none = pops_bare old new n list was q h h.index p refl none

  pub took_try : (q : Which) (h : HeldBuffer) → TriesPop q old.book new.book (try_pop.Took h) → length h.items ≡ 0
      → Holds n (list ++ h.index ∷ []) new × (h ≡ bare n h.index)
  took_try q h p none = pops_bare old new n list was q h h.index (old.book, no_pop old.book, p) refl none

-- the one buffer that it had was given away
pub none_left : (w : Owner) (n i : ℕ) → Holds n (remove_one i (i ∷ [])) w → Holds n [] w
none_left w n i was = subst (λ (xs : List ℕ). Holds n xs w) (remove_one-same i i [] refl) was

pub has_it : (i : ℕ) → Contains (i ∷ []) i
has_it i = (0, omega arith, refl)
