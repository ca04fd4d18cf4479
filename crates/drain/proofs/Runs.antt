-- What a loop over an iterator of objects has met, if each run yields a known list.
use Rattle.drain.proofs.Words.{All, AlwaysYields, List, None, Option, Some, Yields, YieldsList-end, YieldsList-turn, []}
use Rattle.drain.proofs.Words.{length, map-id, refl, subst, sym, ℕ, ◌++◌, ◌∙◌, ◌∷◌, ◌≡◌}
use Rattle.std.proofs.lemmas.Iterator.{YieldsList}

module _ {S : Type 0} (steps : S → Option ℕ → S → Type 0) (s start t : S) (from : start ≡ s) (given : List ℕ)
    (always : AlwaysYields steps (λ (o : ℕ). o) s given) (met : List ℕ) (run : Yields steps start met t) where
  list : YieldsList steps (λ (o : ℕ). o) start given
  list = record { runs = subst (λ x. AlwaysYields steps (λ (o : ℕ). o) x given) (sym from) always }

  -- what holds of the whole list holds of the object met now
  pub holds_of_next : (P : ℕ → Type 0) → All P given → (r : Option ℕ) (u : S) (o : ℕ) → r ≡ Some o → steps t r u → P o
  holds_of_next P all r u o is step =
      let turn = YieldsList-turn list met t run r u o is step in
      subst P (sym turn.1) (all (length met) o turn.0)

  -- at the end the whole list was met
  pub met_all : (r : Option ℕ) (u : S) → r ≡ None → steps t r u → met ≡ given
  met_all r u is step = sym (map-id met) ∙ (YieldsList-end list met t run r u is step).0

-- a run goes on by one more object
pub runs_on :
    {S : Type 0} (steps : S → Option ℕ → S → Type 0) (met : List ℕ) (s t : S) (o : ℕ) (u : S) → Yields steps s met t
    → steps t (Some o) u → Yields steps s (met ++ o ∷ []) u
runs_on steps [] s t o u same step = (u, subst (λ x. steps x (Some o) u) (sym same) step, refl)
runs_on steps (x ∷ met) s t o u run step = (run.0, run.1, runs_on steps met run.0 t o u run.2 step)
