-- Calls of `Quota::take` and `Quota::give_back`: what each takes and what its caller gets. Assumes `Logic`.
use Rattle.std.proofs.Common.{◌≡◌, ℕ, ◌<◌, ◌^◌, Bool, List, [], ◌∷◌, refl, ap, w64}
use seplogic.Ra.Ura.{Ura}
use mir.Val.{Val, vbool, vint, vptr, vunit}
use base.Logic.{SProp, ent, sep, ex, guard, id⊢}
use base.Fml.{Lft, Share, ftrue, fsep, flft}
use prog.Memory.{Memory}
use prog.Routine.{Routine}
use types.Logic.{Logic, sem}
use contract.Monad.{Fun}
use types.Kit.{‵, ◌⊛◌, some, later, ◌$◌, ◌∵◌, !, qed, move, keep, use1, split, join, pick, fjoin, feq_i, feq_l, flt_i}
use types.Kit.{check, show, await, updating, now as at_once, done}
use denote.Memory.{hidden_shr}
use denote.Builtin.{bool, unit}
use denote.Steps.{nothing, only}
use denote.Triple.Statement.{Contract}
use denote.Triple.Spec.{triple_of}
use Rattle.limited_heap.specs.contracts.quota.Quota.{the_row as Row}
use Rattle.limited_heap.specs.contracts.quota.Quota.give_back as GB
use Rattle.limited_heap.specs.contracts.quota.Quota.take as TK

module _ {M : Type 1} {𝓤 : Ura M} (𝓛 : Logic 𝓤) (at_mem : Memory → SProp 𝓤) (run : Routine → Fun 𝓤) where
  abbrev pub Asks : Contract 𝓤
  Asks = triple_of 𝓛 TK.signature (TK.spec 𝓛 at_mem run)

  abbrev pub Returns : Contract 𝓤
  Returns = triple_of 𝓛 GB.signature (GB.spec 𝓛 at_mem run)

  -- the quota d at the place c, and n bytes
  abbrev pub at_asks : Lft → Share → ℕ × ℕ → Row.Denot → ℕ → Asks.Ghost
  at_asks κ q c d n = (
    (
      (κ, tt),
      (q, tt),
      tt,
      (record { ref_ptr = c; now = d }, (n, tt)),
      (vptr c.0 c.1 ∷ [], (vint w64 n ∷ [], tt)),
    ),
    tt,
  )

  abbrev pub at_returns : Lft → Share → ℕ × ℕ → Row.Denot → ℕ → Returns.Ghost
  at_returns κ q c d n = (
    (
      (κ, tt),
      (q, tt),
      tt,
      (record { ref_ptr = c; now = d }, (n, tt)),
      (vptr c.0 c.1 ∷ [], (vint w64 n ∷ [], tt)),
    ),
    tt,
  )

module _ {M : Type 1} {𝓤 : Ura M} (𝓛 : Logic 𝓤) (at_mem : Memory → SProp 𝓤) (run : Routine → Fun 𝓤) (κ : Lft)
    (q : Share) (c : ℕ × ℕ) (d : Row.Denot) (n : ℕ) where
  open 𝓛 use {H, A}

  pub Asks-goes : n < 2 ^ 64 → ent 𝓤 (sep 𝓤 (sem 𝓛 (hidden_shr Row κ d c.0 c.1)) (A.lft κ q))
      ((Asks 𝓛 at_mem run).pre (at_asks 𝓛 at_mem run κ q c d n))
  Asks-goes fn =
      qed 𝓛 (‵ (hidden_shr Row κ d c.0 c.1) ∷ ‵ (flft κ q) ∷ []) ∵ nothing ! $ flt_i ! n (2 ^ 64) fn $
      feq_i ! (List Val) (vint w64 n ∷ []) (vint w64 n ∷ []) refl $ fjoin ! $ fjoin ! $ move ! (1 ∷ []) $
      feq_i ! (List Val) (vptr c.0 c.1 ∷ []) (vptr c.0 c.1 ∷ []) refl $ fjoin ! $ fjoin ! $
      nothing ! $ move ! (2 ∷ []) $ join ! $ join ! $ nothing ! $ move ! (1 ∷ []) $ done !

  abbrev pub Told : Val → Bool → SProp 𝓤
  Told v t = guard 𝓤 (v ≡ vbool t) (A.lft κ q)

  pub Asks-gives : (v : Val) → ent 𝓤 ((Asks 𝓛 at_mem run).post (at_asks 𝓛 at_mem run κ q c d n) v) (H.⇛ (ex 𝓤 (Told v)))
  Asks-gives v =
      qed 𝓛 (types.Kit.raw ((Asks 𝓛 at_mem run).post (at_asks 𝓛 at_mem run κ q c d n) v) ∷ []) ∵ updating ! $
      use1 𝓛 (later (some (λ (t : Bool). ((‵ (flft κ q) ⊛ ‵ ftrue) ⊛ ‵ (bool.own_val t (v ∷ []))) ⊛ some
      (λ (ws : Unit {0} × (Unit {0} × Unit {0})). ‵ (fsep ftrue (fsep ftrue ftrue)) ⊛ ‵ ftrue)))) (id⊢ 𝓤 _) $
      await ! tt $ pick ! (λ t. split ! $ split ! $ move ! (1 ∷ []) $
      feq_l ! (λ e. split ! $ at_once ! $ show ! (Told v) t $ check ! (ap only e) $ keep ! (0 ∷ []) $ done !))

  pub Returns-goes : n < 2 ^ 64 → ent 𝓤 (sep 𝓤 (sem 𝓛 (hidden_shr Row κ d c.0 c.1)) (A.lft κ q))
      ((Returns 𝓛 at_mem run).pre (at_returns 𝓛 at_mem run κ q c d n))
  Returns-goes fn =
      qed 𝓛 (‵ (hidden_shr Row κ d c.0 c.1) ∷ ‵ (flft κ q) ∷ []) ∵ nothing ! $ flt_i ! n (2 ^ 64) fn $
      feq_i ! (List Val) (vint w64 n ∷ []) (vint w64 n ∷ []) refl $ fjoin ! $ fjoin ! $ move ! (1 ∷ []) $
      feq_i ! (List Val) (vptr c.0 c.1 ∷ []) (vptr c.0 c.1 ∷ []) refl $ fjoin ! $ fjoin ! $
      nothing ! $ move ! (2 ∷ []) $ join ! $ join ! $ nothing ! $ move ! (1 ∷ []) $ done !

  pub Returns-gives : (v : Val) → ent 𝓤 ((Returns 𝓛 at_mem run).post (at_returns 𝓛 at_mem run κ q c d n) v)
      (H.⇛ (guard 𝓤 (v ≡ vunit) (A.lft κ q)))
  Returns-gives v =
      qed 𝓛 (types.Kit.raw ((Returns 𝓛 at_mem run).post (at_returns 𝓛 at_mem run κ q c d n) v) ∷ []) ∵ updating ! $
      use1 𝓛 (later (some (λ (r : Unit {0}). ((‵ (flft κ q) ⊛ ‵ ftrue) ⊛ ‵ (unit.own_val r (v ∷ []))) ⊛ some
      (λ (ws : Unit {0} × (Unit {0} × Unit {0})). ‵ (fsep ftrue (fsep ftrue ftrue)) ⊛ ‵ ftrue)))) (id⊢ 𝓤 _) $
      await ! tt $ pick ! (λ r. split ! $ split ! $ move ! (1 ∷ []) $
      feq_l ! (λ e. split ! $ at_once ! $ check ! (ap only e) $ keep ! (0 ∷ []) $ done !))
