-- The tag and the length of a stack in a run.
use Rattle.std.proofs.Common.{◌≡◌, ◌≢◌, ℕ, ◌+◌, ◌*◌, List, [], ◌∷◌, length, Option, Some, ap, sym, refl, subst}
use Rattle.std.proofs.Common.{arith}
use Rattle.tagged_index.specs.Head.{Head, after}
use Rattle.mark_core.proofs.Words.{Which, Full, Empty, Account, Setup, Marking, IsThere, put_which, Kind, Pop, Push}
use Rattle.mark_core.proofs.Words.{Event, Allows, IsPossible, effect, happens, Law, Changes, IsListOf, Run, opening}
use Rattle.mark_core.proofs.Words.{TagsKeepParity, one_stack, push_count, pushes_among}
use Rattle.mark_core.proofs.Happens.{happens_as, pops_as}
use Rattle.mark_core.proofs.Chains.{chain_one}
use Rattle.mark_core.proofs.Changes.{effect_changes}
use Rattle.mark_core.proofs.Runs.{happens_keeps}
use Rattle.mark_core.proofs.Openings.{opening_keeps, opening_length}

-- a pop keeps the sum of a stack's tag and length
pop_parity :
    (head : Which → Head) (p q : Which) (l : Option ℕ) (old new : List ℕ) → (p ≡ q → (i : ℕ) × (old ≡ i ∷ new))
    × (p ≢ q → new ≡ old)
    → (put_which p (after (head p) l) head q).tag + length new ≡ (head q).tag + length old
pop_parity head Full Full l old new c = let taken = c.0 refl in omega (arith, ap length taken.1)
pop_parity head Empty Empty l old new c = let taken = c.0 refl in omega (arith, ap length taken.1)
pop_parity head _ _ l old new c = omega (arith, ap length (c.1 (λ e. cc)))

-- a push raises the sum of its stack's tag and length by two, and keeps that of the other stack
push_parity :
    (head : Which → Head) (p q : Which) (i : ℕ) (old new : List ℕ) → (p ≡ q → new ≡ i ∷ old) × (p ≢ q → new ≡ old)
    → (put_which p (after (head p) (Some i)) head q).tag + length new ≡ (head q).tag + length old + 2 * one_stack p q
push_parity head Full Full i old new c = omega (arith, ap length (c.0 refl))
push_parity head Empty Empty i old new c = omega (arith, ap length (c.0 refl))
push_parity head _ _ i old new c = omega (arith, ap length (c.1 (λ e. cc)))

-- an event raises the sum of a stack's tag and length by two if it is a push on this stack, and keeps it otherwise
abbrev Keeps : Marking → Marking → Kind → Which → List ℕ → List ℕ → Type 0
Keeps m n kind q old new = (n.head q).tag + length new ≡ (m.head q).tag + length old + 2 * push_count kind q

same_list : (m : Marking) (q : Which) (old new : List ℕ) → new ≡ old
    → (m.head q).tag + length new ≡ (m.head q).tag + length old + 2 * 0
same_list m q old new same = omega (arith, ap length same)

module _ (e : Setup) (m : Marking) (law : Law e m) (w : ℕ) (a : Account) (there : IsThere m.accounts w a) where
  effect_parity :
      (kind : Kind) → Allows e m w a kind → (q : Which) (old new : List ℕ) → Changes q kind old new
      → Keeps m (effect m w a kind) kind q old new
  effect_parity (Pop p) can q old new c =
      let popped = ap (λ (n : Marking). (n.head q).tag) (pops_as m w a p can.0) in
      omega (arith, popped, pop_parity m.head p q can.0.2.0 old new c)
  effect_parity (Push p i items) can q old new c = push_parity m.head p q i old new c
  effect_parity _ can q old new c = same_list m q old new c

module _ (e : Setup) (q : Which) where
  happens_parity :
      (m : Marking) (event : Event) → Law e m → IsPossible e m event → (old new : List ℕ) → IsListOf m q old
      → IsListOf (happens m event) q new → Keeps m (happens m event) event.kind q old new
  happens_parity m event law can old new c n =
      let same = happens_as e m event can in
      subst (λ n. Keeps m n event.kind q old new) (sym same)
      (effect_parity e m law event.worker can.0 can.1 event.kind can.2 q old new
      (effect_changes e m law event.worker can.0 can.1 event.kind can.2 q old new c
      (subst (λ n. IsListOf n q new) same n)))

  run_parity :
      (events : List Event) (first last : Marking) → Law e first → Run e first events last → (old new : List ℕ)
      → IsListOf first q old → IsListOf last q new
      → (last.head q).tag + length new ≡ (first.head q).tag + length old + 2 * pushes_among events q
  run_parity [] first last law run old new c n =
      let there : IsListOf first q new = subst (λ m. IsListOf m q new) run n in
      let same : new ≡ old = chain_one first.link (first.head q).index new old there c in
      omega (arith, ap length same, ap (λ (m : Marking). (m.head q).tag) run)
  run_parity (event ∷ events) first last law run old new c n =
      let next = happens_keeps e first event law run.0 in
      let here = happens_parity first event law run.0 old (next.stack q) c (next.owned.chain q) in
      let later = run_parity events (happens first event) last next run.1 (next.stack q) new (next.owned.chain q) n in
      omega (arith, here, later)

pub tags_keep_parity : TagsKeepParity
tags_keep_parity e events m some_buffer run q list is =
    let law = opening_keeps e e.first_tag some_buffer in
    let all = run_parity e q events (opening e e.first_tag) m law run (law.stack q) list (law.owned.chain q) is in
    omega (arith, all, opening_length e e.first_tag some_buffer q, first_tags q)
  where
    first_tags : (p : Which) → ((opening e e.first_tag).head p).tag ≡ e.first_tag
    first_tags Full = refl
    first_tags Empty = refl
