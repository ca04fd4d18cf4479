-- What is reachable by some roots and references is reachable by any that include these.
use Rattle.std.proofs.Common.{List, [], ℕ, ◌∷◌}
use Rattle.heap_graph.specs.Reachable.{IsReachable, LeadsTo}

leads_on : (R S : ℕ → ℕ → Type 0) → ((a b : ℕ) → R a b → S a b) → (a : ℕ) (path : List ℕ) (b : ℕ) → LeadsTo R a path b
    → LeadsTo S a path b
leads_on R S more a [] b h = h
leads_on R S more a (c ∷ path) b h = (more a c h.0, leads_on R S more c path b h.1)

pub reach_on : (A B : ℕ → Type 0) (R S : ℕ → ℕ → Type 0) → ((o : ℕ) → A o → B o) → ((a b : ℕ) → R a b → S a b) → (o : ℕ)
    → IsReachable A R o → IsReachable B S o
reach_on A B R S roots more o h = record {
  first = h.first;
  path = h.path;
  root = roots h.first h.root;
  leads = leads_on R S more h.first h.path o h.leads;
}
