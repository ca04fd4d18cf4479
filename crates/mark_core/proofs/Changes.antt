-- The effect of an event on the two lists, on the tags and on the marks.
use Rattle.std.proofs.Common.{◌≡◌, ◌≢◌, ◌⊎◌, ℕ, ◌+◌, List, ◌∷◌, Option, Some, ap, sym, refl, subst, ◌∙◌, inl, inr}
use Rattle.std.proofs.Common.{◌<◌, ◌≤◌, max, arith}
use Rattle.tagged_index.specs.Head.{Head, after}
use Rattle.mark_core.proofs.Words.{Which, Full, Empty, times, Account, look_of, Setup, Marking, account_at, IsThere}
use Rattle.mark_core.proofs.Words.{put, put_which, Kind, Claim, Finish, StoreLink, Pop, Push, Allows, effect, Chain}
use Rattle.mark_core.proofs.Words.{Law, IsListOf, Changes, StacksChange, TagsRise, PopsFindLinks, MarksRise}
use Rattle.mark_core.proofs.Places.{put_else, put_each, put_one}
use Rattle.mark_core.proofs.Happens.{happens_as, pops_as, tried}
use Rattle.mark_core.proofs.Sums.{stands_times}
use Rattle.mark_core.proofs.Chains.{chain_one, chain_links, chain_rest, chain_more, recent_link}
use Rattle.mark_core.proofs.Ownership.{held_else}
use Rattle.mark_core.proofs.Colours.{charged}

-- an exchange of one head replaces the list of its stack and keeps the list of the other
module _ (link : ℕ → Option ℕ) (head : Which → Head) (h : Head) (old new list : List ℕ) where
  exchanged : (p q : Which) → Chain link (head q).index old → Chain link h.index list
      → Chain link (put_which p h head q).index new → (p ≡ q → new ≡ list) × (p ≢ q → new ≡ old)
  exchanged Full Full c d n = ((λ e. chain_one link h.index new list n d), (λ k. absurd (k refl)))
  exchanged Empty Empty c d n = ((λ e. chain_one link h.index new list n d), (λ k. absurd (k refl)))
  exchanged p q c d n = ((λ e. let f : ⊥ = cc in absurd f), (λ k. chain_one link (head q).index new old n c))

-- no value falls if one is replaced by a value that is not smaller
put_rises : (mark : ℕ → ℕ) (p x : ℕ) → mark p ≤ x → (o : ℕ) → mark o ≤ put p x mark o
put_rises mark p x h = put_each (λ o z. mark o ≤ z) p x mark h (λ o n. omega arith)

module _ (e : Setup) (m : Marking) (law : Law e m) (w : ℕ) (a : Account) (there : IsThere m.accounts w a) where
  -- each list of a stack is the one that the law names
  was_stack : (p q : Which) (old : List ℕ) → IsListOf m q old → p ≡ q → old ≡ law.stack p
  was_stack p q old c s =
      chain_one m.link (m.head q).index old (law.stack q) c (law.owned.chain q) ∙ ap law.stack (sym s)

  -- a pop removes the first buffer from its stack, and keeps the other stack
  pub pop_takes :
      (p q : Which) (i : ℕ) (l : Option ℕ) → (look_of a p).head ≡ Some (m.head p) → (m.head p).index ≡ Some i
      → (look_of a p).link ≡ Some l
      → (old new : List ℕ) → IsListOf m q old → Chain m.link (put_which p (after (m.head p) l) m.head q).index new
      → (p ≡ q → (k : ℕ) × (old ≡ k ∷ new)) × (p ≢ q → new ≡ old)
  pop_takes p q i l hit top next old new c n = (taken, both.1)
    where
      r : (rest : List ℕ) × (law.stack p ≡ i ∷ rest) × Chain m.link (m.link i) rest
      r = chain_rest m.link (m.head p).index (law.stack p) i (law.owned.chain p) top

      stands : m.link i ≡ l
      stands = recent_link m.link (m.head p) (look_of a p) i l (law.owned.recent p w a there.0) hit top next

      both : (p ≡ q → new ≡ r.0) × (p ≢ q → new ≡ old)
      both = exchanged m.link m.head (after (m.head p) l) old new r.0 p q c
          (subst (λ x. Chain m.link x r.0) stands r.2) n

      taken : p ≡ q → (k : ℕ) × (old ≡ k ∷ new)
      taken s = (i, was_stack p q old c s ∙ (r.1 ∙ ap (λ xs. i ∷ xs) (sym (both.0 s))))

  -- a push puts the buffer before its stack, and keeps the other stack
  pub push_puts :
      (p q : Which) (i : ℕ) → m.link i ≡ (m.head p).index
      → (old new : List ℕ) → IsListOf m q old
      → Chain m.link (put_which p (after (m.head p) (Some i)) m.head q).index new
      → (p ≡ q → new ≡ i ∷ old) × (p ≢ q → new ≡ old)
  push_puts p q i leads old new c n = (λ s. both.0 s ∙ ap (λ xs. i ∷ xs) (sym (was_stack p q old c s)), both.1)
    where
      both : (p ≡ q → new ≡ i ∷ law.stack p) × (p ≢ q → new ≡ old)
      both = exchanged m.link m.head (after (m.head p) (Some i)) old new (i ∷ law.stack p) p q c
          (chain_more m.link (m.head p).index (law.stack p) i (law.owned.chain p) leads) n

  -- a store to the link of a held buffer changes no list
  pub store_leaves : (q : Which) (i : ℕ) (l : Option ℕ) → 0 < times i a.held → (old new : List ℕ) → IsListOf m q old
      → Chain (put i l m.link) (m.head q).index new → new ≡ old
  store_leaves q i l mine old new c n =
      chain_one (put i l m.link) (m.head q).index new old n
      (chain_links m.link (put i l m.link) (m.head q).index old (λ b h. put_else i b l m.link (other b h)) c)
    where
      other : (b : ℕ) → 0 < times b old → b ≢ i
      other b h = held_else e.buffers m.head m.link m.accounts law.stack law.owned w a there.0 i mine q b
          (subst (λ xs. 0 < times b xs) (was_stack q q old c refl) h)

  pub effect_changes : (kind : Kind) → Allows e m w a kind → (q : Which) (old new : List ℕ) → IsListOf m q old
      → IsListOf (effect m w a kind) q new → Changes q kind old new
  effect_changes (StoreLink i l) can q old new c n = store_leaves q i l (stands_times a.held i can) old new c n
  effect_changes (Pop p) can q old new c n =
      pop_takes p q can.0.1.0 can.0.2.0 can.0.0.0 can.0.1.1 can.0.2.1 old new c
      (subst (λ n. IsListOf n q new) (pops_as m w a p can.0) n)
  effect_changes (Push p i items) can q old new c n = push_puts p q i can.2 old new c n
  effect_changes _ can q old new c n = chain_one m.link (m.head q).index new old n c

  -- no mark falls
  effect_marks : (kind : Kind) → Allows e m w a kind → (o : ℕ) → m.mark o ≤ (effect m w a kind).mark o
  effect_marks (Claim p) can o = put_rises m.mark p (max (m.mark p) 1) (omega arith) o
  effect_marks (Finish p) can o =
      let was = charged e m.mark m.slots m.accounts law.coloured w a there.0 p (stands_times a.charge p can.0) in
      put_rises m.mark p 2 (omega (arith, was.0)) o
  effect_marks (Pop p) can o =
      tried (λ (n : Marking). m.mark o ≤ n.mark o) m w a p (omega arith) (λ i l. omega arith)
  effect_marks _ can o = omega arith

pub stacks_change : StacksChange
stacks_change e m event law can q old new c n =
    effect_changes e m law event.worker can.0 can.1 event.kind can.2 q old new c
    (subst (λ n. IsListOf n q new) (happens_as e m event can) n)

-- an exchange raises the tag of its head by one, and leaves the other head
tag_after : (m : Marking) (p q : Which) (i : Option ℕ) → (put_which p (after (m.head p) i) m.head q ≡ m.head q)
    ⊎ ((put_which p (after (m.head p) i) m.head q).tag ≡ (m.head q).tag + 1)
tag_after m p q i = put_one (λ r h. (h ≡ m.head r) ⊎ (h.tag ≡ (m.head r).tag + 1)) p (after (m.head p) i) m.head
    (inr refl) (λ r. inl refl) q

effect_rises : (m : Marking) (w : ℕ) (a : Account) (kind : Kind) (q : Which) → ((effect m w a kind).head q ≡ m.head q)
    ⊎ (((effect m w a kind).head q).tag ≡ (m.head q).tag + 1)
effect_rises m w a (Pop p) q =
    tried (λ (n : Marking). (n.head q ≡ m.head q) ⊎ ((n.head q).tag ≡ (m.head q).tag + 1)) m w a p (inl refl)
    (λ i l. tag_after m p q l)
effect_rises m w a (Push p i items) q = tag_after m p q (Some i)
effect_rises m w a _ q = inl refl

pub tags_rise : TagsRise
tags_rise m event q = effect_rises m event.worker (account_at m.accounts event.worker) event.kind q

pub pops_find_links : PopsFindLinks
pops_find_links e m law w a q is can i l top next =
    recent_link m.link (m.head q) (look_of a q) i l (law.owned.recent q w a is) can.0.0 top next

pub marks_rise : MarksRise
marks_rise e m event law can o =
    subst (λ n. m.mark o ≤ n.mark o) (sym (happens_as e m event can))
    (effect_marks e m law event.worker can.0 can.1 event.kind can.2 o)
