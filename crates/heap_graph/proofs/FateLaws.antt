-- What is known of chains while a path of classes is followed.
use Rattle.heap_graph.proofs.Words.{AreFates, Class, Contains, Contains-append_left, Contains-push, Contains-push_cases}
use Rattle.heap_graph.proofs.Words.{DoesStay, Fate, IsChain, IsChainAt, IsClimb, IsCut, IsFate, IsKnown, IsPath}
use Rattle.heap_graph.proofs.Words.{IsSettled, IsUnder, Layout, List, NeverEnds, Some, SubRecord, TableEntry, [], ap}
use Rattle.heap_graph.proofs.Words.{arith, cases_eq, cond, count_by, get_or, get_or-set_same, get_or_from_slice_get}
use Rattle.heap_graph.proofs.Words.{ids_of, is_unknown, length, length-set, refl, set, slice_get, slice_get-get_or}
use Rattle.heap_graph.proofs.Words.{slice_get_within, slice_index, subst, suc, sum_by-set, sym, zero, ℕ, ⊎_elim, ◌++◌}
use Rattle.heap_graph.proofs.Words.{◌<◌, ◌∙◌, ◌∷◌, ◌≡◌}
use Rattle.heap_graph.specs.declared.classes.fate.Fate.TheVariants as fates
use Rattle.heap_graph.proofs.ChainLaws.{never_below, some_inj}
use Rattle.heap_graph.proofs.ClassTableLaws.{same_count}
use Rattle.heap_graph.proofs.Firsts.{slice_get_push}
use Rattle.heap_graph.proofs.PathLaws.{never_around}

-- ---- one entry is written

set_here : (known : List Fate) (k : ℕ) (f : Fate) → k < length known → slice_get (set known k f) k ≡ Some f
set_here known k f h =
    slice_get-get_or (set known k f) k f (omega (arith, length-set known k f)) ∙ ap Some (get_or-set_same known k f f h)

set_there : (known : List Fate) (k j : ℕ) (f : Fate) → (j ≡ k → ⊥) → slice_get (set known k f) j ≡ slice_get known j
set_there [] k j f other = refl
set_there (x ∷ xs) zero zero f other = absurd (other refl)
set_there (x ∷ xs) zero (suc j) f other = refl
set_there (x ∷ xs) (suc k) zero f other = refl
set_there (x ∷ xs) (suc k) (suc j) f other = set_there xs k j f (λ e. other (ap suc e))

module _ (known : List Fate) (k : ℕ) (f : Fate) where
  stay_but : (IsKnown known k → IsKnown (set known k f) k) → DoesStay known (set known k f)
  stay_but here j it = ⊎_elim
      (λ e. subst (IsKnown (set known k f)) (sym e) (here (subst (IsKnown known) e it)))
      (λ other. record { fate = it.fate; is = set_there known k j f other ∙ it.is; settled = it.settled })
      (cases_eq j k)

  pub known_set : k < length known → IsSettled f → IsKnown (set known k f) k
  known_set h settled = record { fate = f; is = set_here known k f h; settled = settled }

  -- if an unknown fate is overwritten, the known ones stay
  pub stay_open : (old : Fate) → slice_get known k ≡ Some old → (IsSettled old → ⊥) → DoesStay known (set known k f)
  stay_open old is unsettled =
      stay_but (λ it. absurd (unsettled (subst IsSettled (some_inj (sym it.is ∙ is)) it.settled)))

  -- they also stay if a known fate is written
  pub stay_known : k < length known → IsSettled f → DoesStay known (set known k f)
  stay_known h settled = stay_but (λ it. known_set h settled)

module _ {s : ℕ} {heap : List SubRecord} {ids : List ℕ} {known : List Fate} where
  fate_set : {path : List ℕ} (k : ℕ) (f : Fate) → AreFates s heap ids path known → k < length ids
      → IsFate s heap ids (slice_index ids k) f → (j : ℕ) (g : Fate) → slice_get (set known k f) j ≡ Some g
      → IsFate s heap ids (slice_index ids j) g
  fate_set k f are below fate j g is = ⊎_elim
      (λ e.
      let same = some_inj (sym (set_here known k f (omega (arith, are.one_each, below)))
      ∙ ap (slice_get (set known k f)) (sym e) ∙ is) in
      subst (λ (n : ℕ). IsFate s heap ids (slice_index ids n) g) (sym e)
      (subst (IsFate s heap ids (slice_index ids k)) same fate))
      (λ other. are.each j g (sym (set_there known k j f other) ∙ is))
      (cases_eq j k)

  -- a class is put on the path
  pub fates_on : {path : List ℕ} (k : ℕ) → AreFates s heap ids path known → k < length ids
      → AreFates s heap ids (path ++ k ∷ []) (set known k fates.OnPath)
  fates_on {path} k are below = record {
    one_each = length-set known k fates.OnPath ∙ are.one_each;
    each = fate_set k fates.OnPath are below tt;
    on_path = λ j is. ⊎_elim (λ e. subst (Contains (path ++ k ∷ [])) (sym e) (Contains-push path k))
        (λ other. Contains-append_left path (k ∷ []) j
        (are.on_path j (sym (set_there known k j fates.OnPath other) ∙ is)))
        (cases_eq j k);
  }

  -- a class is taken off the path
  pub fates_off : (path : List ℕ) (k : ℕ) (f : Fate) → AreFates s heap ids (path ++ k ∷ []) known → k < length ids
      → IsFate s heap ids (slice_index ids k) f → IsSettled f → AreFates s heap ids path (set known k f)
  fates_off path k f are below fate settled = record {
    one_each = length-set known k f ∙ are.one_each;
    each = fate_set k f are below fate;
    on_path = λ j is. ⊎_elim
        (λ e. absurd (subst IsSettled (some_inj (sym (set_here known k f (omega (arith, are.one_each, below)))
        ∙ ap (slice_get (set known k f)) (sym e) ∙ is)) settled))
        (λ other. ⊎_elim (λ h. h) (λ same. absurd (other (sym same)))
        (Contains-push_cases path k j (are.on_path j (sym (set_there known k j f other) ∙ is))))
        (cases_eq j k);
  }

  -- the fate above a path: endless if the path comes back to itself, and else that of the next class
  pub comes_back : {path : List ℕ} {super : ℕ} (next : ℕ) → AreFates s heap ids path known → IsPath heap ids path super
      → slice_index ids next ≡ super → slice_get known next ≡ Some fates.OnPath → NeverEnds heap super
  comes_back {path} {super} next are p is on =
      never_around heap ids path super next p (are.on_path next on) (sym is)

  pub fate_above : {path : List ℕ} {super : ℕ} (next : ℕ) (f : Fate) → AreFates s heap ids path known
      → slice_index ids next ≡ super → slice_get known next ≡ Some f → IsFate s heap ids super f
  fate_above next f are is here = subst (λ (id : ℕ). IsFate s heap ids id f) is (are.each next f here)

-- fewer fates are unknown after a class was put on the path
pub fewer_unknown : (known : List Fate) (at : ℕ) → slice_get known at ≡ Some fates.Unknown
    → count_by is_unknown (set known at fates.OnPath) < count_by is_unknown known
fewer_unknown known at is =
    let one = λ (f : Fate). cond {A = ℕ} (is_unknown f) 1 0 in
    let below = slice_get_within known at fates.Unknown is in
    let here : one (get_or known at fates.OnPath) ≡ 1 =
    ap one (get_or_from_slice_get known at fates.Unknown fates.OnPath is) in
    omega (arith, sum_by-set one known at fates.OnPath fates.OnPath below, here)

-- ---- the start and the end

pub read_fate : (known : List Fate) (k : ℕ) (f : Fate) → k < length known → get_or known k fates.Unknown ≡ f
    → slice_get known k ≡ Some f
read_fate known k f h e = slice_get-get_or known k fates.Unknown h ∙ ap Some e

pub first_climb : {s : ℕ} {heap : List SubRecord} (entries : List TableEntry) (path : List ℕ) {known : List Fate}
    (first : ℕ) → path ≡ [] → AreFates s heap (ids_of entries) [] known → first < length entries
    → get_or known first fates.Unknown ≡ fates.Unknown → IsClimb s heap (ids_of entries) first path known first
first_climb {s} {heap} entries path {known} first none are below unknown =
    let within : first < length (ids_of entries) = omega (arith, below, same_count entries) in
    rw none (record {
      fates_are = are;
      path_is = tt;
      below = within;
      unknown = read_fate known first fates.Unknown (omega (arith, within, are.one_each)) unknown;
      from = Contains-push [] first;
    })

pub settled_fate : (f : Fate) → (f ≡ fates.Unknown → ⊥) → (f ≡ fates.OnPath → ⊥) → IsSettled f
settled_fate fates.Unknown a b = a refl
settled_fate fates.OnPath a b = b refl
settled_fate (fates.Whole l) a b = tt
settled_fate fates.Broken a b = tt
settled_fate fates.Endless a b = tt

-- ---- the fate of a class, by that of its superclass

module _ {heap : List SubRecord} {ids : List ℕ} {k super : ℕ} (under : IsUnder heap ids k super) where
  pub chain_at : (rest : List Class) → IsChain heap super rest → IsChainAt heap ids k under.class rest
  chain_at rest chain = record {
    below = under.below;
    named = under.named;
    chain = subst (λ (id : ℕ). IsChain heap id rest) (sym under.super_is) chain;
  }

  pub fate_up : (s : ℕ) (f : Fate) → ((l : Layout) → f ≡ fates.Whole l → ⊥) → IsFate s heap ids super f
      → IsFate s heap ids (slice_index ids k) f
  fate_up s fates.Unknown other fate = tt
  fate_up s fates.OnPath other fate = tt
  fate_up s (fates.Whole l) other fate = absurd (other l refl)
  fate_up s fates.Broken other fate =
      (under.class ∷ fate.0, (under.named, subst (λ (id : ℕ). IsCut heap id fate.0) (sym under.super_is) fate.1))
  fate_up s fates.Endless other fate =
      never_below heap (slice_index ids k) under.class under.named (subst (NeverEnds heap) (sym under.super_is) fate)

pub known_here : (known : List Fate) (k : ℕ) (f : Fate) → slice_get known k ≡ Some f → (f ≡ fates.Unknown → ⊥)
    → (f ≡ fates.OnPath → ⊥) → IsKnown known k
known_here known k f is a b = record { fate = f; is = is; settled = settled_fate f a b }

-- one more class whose fate is unknown
pub unknown_more : (known new : List Fate) (f : Fate) → new ≡ known ++ f ∷ [] → f ≡ fates.Unknown
    → ((k : ℕ) (x : Fate) → slice_get known k ≡ Some x → x ≡ fates.Unknown) → (k : ℕ) (x : Fate)
    → slice_get new k ≡ Some x → x ≡ fates.Unknown
unknown_more known new f e unknown each k x is = ⊎_elim (each k x) (λ h. sym h.1 ∙ unknown)
    (slice_get_push known f k x (sym (ap (λ (xs : List Fate). slice_get xs k) e) ∙ is))
