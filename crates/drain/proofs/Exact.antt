-- The roots are marked, the marks are closed under references, and only reachable objects are marked: so exactly the
-- reachable objects are marked.
use Rattle.drain.proofs.Words.{IsReachable, LeadsTo, List, [], refl, subst, sym, ℕ, ◌++◌, ◌↔◌, ◌∷◌}

module _ (is_root : ℕ → Type 0) (refers : ℕ → ℕ → Type 0) where
  -- a path goes on by one more reference
  leads_on : (a : ℕ) (path : List ℕ) (b c : ℕ) → LeadsTo refers a path b → refers b c
      → LeadsTo refers a (path ++ c ∷ []) c
  leads_on a [] b c same next = (subst (λ x. refers x c) (sym same) next, refl)
  leads_on a (d ∷ path) b c leads next = (leads.0, leads_on d path b c leads.1 next)

  pub root_reachable : (o : ℕ) → is_root o → IsReachable is_root refers o
  root_reachable o root = record { first = o; path = []; root = root; leads = refl }

  pub next_reachable : (a b : ℕ) → IsReachable is_root refers a → refers a b → IsReachable is_root refers b
  next_reachable a b reachable next = record {
    first = reachable.first;
    path = reachable.path ++ b ∷ [];
    root = reachable.root;
    leads = leads_on reachable.first reachable.path a b reachable.leads next;
  }

  module _ (holds : ℕ → Type 0) (closed : (a b : ℕ) → holds a → refers a b → holds b) where
    -- if `holds` is true of the first object of a path, it is true of the last
    ends_within : (a : ℕ) (path : List ℕ) (b : ℕ) → holds a → LeadsTo refers a path b → holds b
    ends_within a [] b here same = subst holds same here
    ends_within a (c ∷ path) b here leads = ends_within c path b (closed a c here leads.0) leads.1

    pub exactly_reachable : ((o : ℕ) → is_root o → holds o) → ((o : ℕ) → holds o → IsReachable is_root refers o)
        → (o : ℕ) → holds o ↔ IsReachable is_root refers o
    exactly_reachable roots sound o =
        (sound o, λ path. ends_within path.first path.path o (roots path.first path.root) path.leads)
