-- The effect of an event, in terms of the account that takes part in it, and what holds along a run.
use Rattle.std.proofs.Common.{◌≡◌, ℕ, List, [], ◌∷◌, Option, Some, ap, sym, subst, ◌∙◌}
use Rattle.mark_core.proofs.Words.{Which, Account, look_of, no_share, Setup, Marking, Pop, Event, CanPop, IsPossible}
use Rattle.mark_core.proofs.Words.{effect, happens, stack_popped, Run}
use Rattle.mark_core.proofs.Places.{at_get_or}

-- the account of the event's worker is the one that acts
pub happens_as :
    (e : Setup) (m : Marking) (event : Event) (can : IsPossible e m event)
    → happens m event ≡ effect m event.worker can.0 event.kind
happens_as e m event can =
    ap (λ x. effect m event.worker x event.kind) (at_get_or m.accounts event.worker can.0 no_share can.1.0)

-- a possible pop takes the buffer that the head names, and makes the loaded link the new head
pub pops_as :
    (m : Marking) (w : ℕ) (a : Account) (q : Which) (can : CanPop (m.head q) (look_of a q))
    → effect m w a (Pop q) ≡ stack_popped m w a q (Some can.1.0) (Some can.2.0)
pops_as m w a q can =
    ap (λ n. stack_popped m w a q n (look_of a q).link) can.1.1 ∙ ap (stack_popped m w a q (Some can.1.0)) can.2.1

-- a run keeps what each possible event keeps
pub along :
    (e : Setup) (P : Marking → Type 0)
    → ((m : Marking) (event : Event) → P m → IsPossible e m event → P (happens m event))
    → (events : List Event) (first last : Marking) → P first → Run e first events last → P last
along e P keep [] first last here run = subst P (sym run) here
along e P keep (event ∷ events) first last here run =
    along e P keep events (happens first event) last (keep first event here run.0) run.1

-- P holds after a pop, possible or not, if it holds before the pop and after each pop of a buffer with a loaded link
pub tried :
    (P : Marking → Type 0) (m : Marking) (w : ℕ) (a : Account) (q : Which)
    → P m → ((i : ℕ) (l : Option ℕ) → P (stack_popped m w a q (Some i) (Some l))) → P (effect m w a (Pop q))
tried P m w a q was popped = go (m.head q).index (look_of a q).link
  where
    go : (x : Option ℕ) (y : Option (Option ℕ)) → P (stack_popped m w a q x y)
    go (Some i) (Some l) = popped i l
    go _ _ = was
