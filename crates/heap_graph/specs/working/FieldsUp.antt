-- The identifiers in the fields of an instance, class by class from its own class up. Classes that declare no field are
-- skipped. A class is given by its number.
use Rattle.std.specs.Prelude.{List, None, Option, Some, [], drop, length, slice_get, slice_index_or, ℕ, ◌++◌, ◌+◌, ◌<◌}
use Rattle.std.specs.Prelude.{◌∷◌, ◌≡◌, ◌≤◌}
use Rattle.std.specs.Coded.{Coded-set, coded_option, coded_ℕ, ×_prop}
use Rattle.std.proofs.Common.{refl, subst, sym, ◌∙◌}
use Rattle.std.proofs.Math.Path.{Σ_path, to_path_p}
use Rattle.heap_graph.specs.declared.classes.fate.Fate.{Fate}
use Rattle.heap_graph.specs.declared.classes.fate.Fate.TheVariants as fates
use Rattle.heap_graph.specs.declared.plan.ClassPlan.{ClassPlan}
use Rattle.heap_graph.specs.working.ClassPlans.{HasIdPlaces, id_places_of, plan_at}
use Rattle.heap_graph.specs.working.IdPlaces.{ids_at}

abbrev pub next_in : Fate → Option ℕ
next_in fates.Unknown = None
next_in fates.OnPath = None
next_in (fates.Whole l) = l.next
next_in fates.Broken = None
next_in fates.Endless = None

-- the first class above class `k` that declares fields; none if the chain of `k` does not end at 0 (`Whole`)
abbrev pub next_above : List Fate → ℕ → Option ℕ
next_above known k = next_in (slice_index_or known k fates.Unknown)

-- the classes are `first`, the first class above `first` that declares fields, and so on up
abbrev pub AreUp : List Fate → Option ℕ → List ℕ → Type 0
AreUp known first [] = first ≡ None
AreUp known first (k ∷ ks) = (first ≡ Some k) × AreUp known (next_above known k) ks

abbrev pub Up : List Fate → Option ℕ → Type 0
Up known first = (classes : List ℕ) × AreUp known first classes

option_set : (a b : Option ℕ) → IsProp (a ≡ b)
option_set a b = Coded-set (coded_option coded_ℕ) a b

AreUp-prop : (known : List Fate) (first : Option ℕ) (classes : List ℕ) → IsProp (AreUp known first classes)
AreUp-prop known first [] = option_set first None
AreUp-prop known first (k ∷ ks) = ×_prop (option_set first (Some k)) (AreUp-prop known (next_above known k) ks)

-- there is only one list of the classes from `first` up
one_up : (known : List Fate) (first : Option ℕ) (ks ms : List ℕ) → AreUp known first ks → AreUp known first ms → ks ≡ ms
one_up known first [] [] h e = refl
one_up known first [] (m ∷ ms) h e = let wrong : None ≡ Some m = sym h ∙ e.0 in absurd cc
one_up known first (k ∷ ks) [] h e = let wrong : Some k ≡ None = sym h.0 ∙ e in absurd cc
one_up known first (k ∷ ks) (m ∷ ms) h e =
    let both : Some k ≡ Some m = sym h.0 ∙ e.0 in
    let same : k ≡ m = cc in
    let rest : ks ≡ ms = one_up known (next_above known k) ks ms h.1
    (subst (λ (x : ℕ). AreUp known (next_above known x) ms) (sym same) e.1) in
    λ i. same i ∷ rest i

pub Up-prop : (known : List Fate) (first : Option ℕ) → IsProp (Up known first)
Up-prop known first = λ x y.
    let same : x.0 ≡ y.0 = one_up known first x.0 y.0 x.1 y.1 in
    Σ_path same (to_path_p (λ i. AreUp known first (same i)) (AreUp-prop known first y.0 _ y.1))

-- the identifiers in the followed fields of the classes; `values` has the values of their fields, class by class
abbrev pub ids_up : ℕ → List ClassPlan → List ℕ → List ℕ → List ℕ → List ℕ
ids_up s plans places [] values = []
ids_up s plans places (k ∷ ks) values =
    ids_at s (id_places_of plans places k) values
    ++ ids_up s plans places ks (drop (plan_at plans k).size values)

-- the identifier at each place ends within the first `size` bytes of the values, there are at most `size` places, and
-- the values have at least `size` bytes
pub record StandInside (s : ℕ) (places : List ℕ) (size : ℕ) (values : List ℕ) : Type 0 where
  pub inside : (k place : ℕ) → slice_get places k ≡ Some place → place + s ≤ size
  pub few : length places ≤ size
  pub room : size ≤ length values

-- class `k` exists, and the values have room for its fields
pub record HasFields (s : ℕ) (plans : List ClassPlan) (places : List ℕ) (known : List Fate) (values : List ℕ)
    (k : ℕ) : Type 0 where
  pub below : k < length plans
  pub has_fate : k < length known
  pub has : HasIdPlaces plans places k
  pub stand : StandInside s (id_places_of plans places k) (plan_at plans k).size values

-- `HasFields` for each class of the list; `values` has the values of their fields, class by class
abbrev pub HaveFields : ℕ → List ClassPlan → List ℕ → List Fate → List ℕ → List ℕ → Type 0
HaveFields s plans places known [] values = Unit {0}
HaveFields s plans places known (k ∷ ks) values = HasFields s plans places known values k
    × HaveFields s plans places known ks (drop (plan_at plans k).size values)
