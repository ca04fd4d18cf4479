-- A walk over identifiers, and the objects that they name.
use Rattle.heap_graph.proofs.Words.{List, None, Option, Some, [], ap, append_assoc, arith, cons_option, filter_map}
use Rattle.heap_graph.proofs.Words.{filter_map-append, length, map, references_in, refl, sym, target_in, ℕ, ◌++◌, ◌∙◌}
use Rattle.heap_graph.proofs.Words.{◌∷◌, ◌≡◌}
use Rattle.std.specs.Iterator.{MakesProgress, YieldsFirst, item_count}
use Rattle.heap_graph.specs.Walks.{GoesPast, Step, ids_in}
use Rattle.heap_graph.specs.working.Resolving.{step_in}

-- ---- the steps over identifiers

pub ids_of_steps : (all ids : List ℕ) → ids_in (map (step_in all) ids) ≡ ids
ids_of_steps all [] = refl
ids_of_steps all (id ∷ ids) = ap (λ (xs : List ℕ). id ∷ xs) (ids_of_steps all ids)

pub targets_of_steps : (all ids : List ℕ) → references_in (map (step_in all) ids) ≡ filter_map (target_in all) ids
targets_of_steps all [] = refl
targets_of_steps all (id ∷ ids) = ap (λ (xs : List ℕ). cons_option (target_in all id) xs) (targets_of_steps all ids)

-- ---- up to the first identifier that names an object

-- the steps of `old` before `new` were passed, and name no object
pub record HasPassed (old new : List Step) : Type 0 where
  pub passed : List Step
  pub none : references_in passed ≡ []
  pub rest : old ≡ passed ++ new

pub passed_none : (steps : List Step) → HasPassed steps steps
passed_none steps = record { passed = []; none = refl; rest = refl }

one_step : (all : List ℕ) (id : ℕ) (before after : List ℕ) (o : Option ℕ) → before ≡ id ∷ after → o ≡ target_in all id
    → map (step_in all) before ≡ record { id = id; names = o } ∷ map (step_in all) after
one_step all id before after o e named =
    ap (λ (xs : List ℕ). map (step_in all) xs) e
    ∙ ap (λ (p : Option ℕ). record { id = id; names = p } ∷ map (step_in all) after) (sym named)

pub passed_one : (all : List ℕ) (old : List Step) (id : ℕ) (before after : List ℕ) → before ≡ id ∷ after
    → None ≡ target_in all id → HasPassed old (map (step_in all) before) → HasPassed old (map (step_in all) after)
passed_one all old id before after e named h =
    let step : List Step = record { id = id; names = None } ∷ [] in
    record {
      passed = h.passed ++ step;
      none = filter_map-append (λ (s : Step). s.names) h.passed step ∙ ap (λ (xs : List ℕ). xs ++ []) h.none;
      rest = h.rest ∙ ap (λ (xs : List Step). h.passed ++ xs) (one_step all id before after None e named)
          ∙ sym (append_assoc h.passed step (map (step_in all) after));
    }

pub goes_to : (all : List ℕ) (old : List Step) (id o : ℕ) (before after : List ℕ) → before ≡ id ∷ after
    → Some o ≡ target_in all id → HasPassed old (map (step_in all) before)
    → GoesPast old (Some o) (map (step_in all) after)
goes_to all old id o before after e named h = (
  h.passed,
  id,
  h.none,
  h.rest ∙ ap (λ (xs : List Step). h.passed ++ xs)
      (one_step all id before after (Some o) e named),
)

pub goes_to_end : (all : List ℕ) (old : List Step) (before after : List ℕ) → before ≡ [] → after ≡ []
    → HasPassed old (map (step_in all) before) → GoesPast old None (map (step_in all) after)
goes_to_end all old before after e f h = (
  ap (λ (xs : List Step). references_in xs) (h.rest ∙ ap (λ (xs : List ℕ). h.passed ++ map (step_in all) xs) e)
      ∙ filter_map-append (λ (s : Step). s.names) h.passed [] ∙ ap (λ (xs : List ℕ). xs ++ []) h.none,
  ap (λ (xs : List ℕ). map (step_in all) xs) f,
)

-- the object is the first of the remaining ones
pub yields : (old : List Step) (object : Option ℕ) (new : List Step) → GoesPast old object new
    → YieldsFirst references_in old object new
yields old None new g = (g.0, ap (λ (xs : List Step). references_in xs) g.1)
yields old (Some o) new (passed, id, none, is) =
    ap (λ (xs : List Step). references_in xs) is
    ∙ filter_map-append (λ (s : Step). s.names) passed (record { id = id; names = Some o } ∷ new)
    ∙ ap (λ (xs : List ℕ). xs ++ o ∷ references_in new) none

-- so fewer remain
pub falls : (old : List Step) (o : ℕ) (new : List Step) → YieldsFirst references_in old (Some o) new
    → MakesProgress (λ _. Unit {0}) (item_count references_in) old (Some o) new
falls old o new h = record { on = λ _. (tt, tt, omega (arith, ap length h)); keeps = tt; rests = λ _. tt }

pub none_of : {X : Type 0} (o : Option X) → ((x : X) → o ≡ Some x → ⊥) → o ≡ None
none_of None other = refl
none_of (Some x) other = absurd (other x refl)
