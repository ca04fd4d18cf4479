-- A lost try may be repeated.
use Rattle.buffer_pool.proofs.Words.{Book, Did, Empty, Full, Head, HeldBuffer, IsBusy, List, Log, MayPush, Option}
use Rattle.buffer_pool.proofs.Words.{TriesPop, TriesPush, TryPopped, Which, failed, link_loaded, loaded, lost_pops}
use Rattle.buffer_pool.proofs.Words.{lost_pushes, subst, sym, try_pop_steps, try_push_steps, ℕ, ◌++◌, ◌≡◌}
use Rattle.buffer_pool.specs.declared.answers.TryPushed.{TryPushed}
use Rattle.buffer_pool.proofs.Deeds.{did_on}
use Rattle.buffer_pool.specs.declared.answers.TryPopped.TheVariants as try_pop
use Rattle.buffer_pool.specs.declared.answers.TryPushed.TheVariants as try_push

may_loaded : (q : Which) (h : HeldBuffer) (head : Head) (b : Book) → MayPush q h b
    → MayPush q h (failed (loaded q head b))
may_loaded Full h head b m = record { held = m.held; size = m.size; charged = m.charged; bare = m.bare; busy = m.busy }
may_loaded Empty h head b m = record { held = m.held; size = m.size; charged = m.charged; bare = m.bare; busy = m.busy }

pub may_again : (q : Which) (h back : HeldBuffer) (old new : Book) → MayPush q h old
    → TriesPush q h old new (try_push.Lost back) → MayPush q back new
may_again q h back old new may lost =
    subst (λ (k : HeldBuffer). MayPush q k new) (sym lost.1)
    (subst (MayPush q h) (sym lost.3) (may_loaded q h lost.0 old may))

-- a worker that is not idle may try a pop again
busy_looked : (q : Which) (head : Head) (link : Option ℕ) (b : Book) → IsBusy b.account
    → IsBusy (failed (link_loaded q link (loaded q head b))).account
busy_looked Full head link b busy = busy
busy_looked Empty head link b busy = busy

pub busy_again : (q : Which) (old new : Book) → IsBusy old.account → TriesPop q old new try_pop.Lost
    → IsBusy new.account
busy_again q old new busy lost =
    subst (λ (b : Book). IsBusy b.account) (sym lost.5) (busy_looked q lost.0 lost.2 old busy)

module _ (q : Which) (old mid new : Log) where
  -- a worker lost some tries of a pop and made one more
  pub pop_did : (tried : TryPopped HeldBuffer) → ((lost : ℕ) × Did old (lost_pops q lost) mid)
      → Did mid (try_pop_steps q tried) new → (lost : ℕ) × Did old (lost_pops q lost ++ try_pop_steps q tried) new
  pop_did tried was did = (was.0, did_on old mid new (lost_pops q was.0) (try_pop_steps q tried) was.1 did)

  -- the same of a push; h and k are the same buffer
  pub push_did :
      (h k : HeldBuffer) (tried : TryPushed HeldBuffer) → k ≡ h
      → ((links : List (Option ℕ)) × Did old (lost_pushes q h links) mid)
      → ((link : Option ℕ) × Did mid (try_push_steps q k link tried) new)
      → (links : List (Option ℕ)) × (link : Option ℕ)
      × Did old (lost_pushes q h links ++ try_push_steps q h link tried) new
  push_did h k tried same was did = (
    was.0,
    did.0,
    did_on old mid new (lost_pushes q h was.0) (try_push_steps q h did.0 tried) was.1
        (subst (λ x. Did mid (try_push_steps q x did.0 tried) new) same did.1),
  )
