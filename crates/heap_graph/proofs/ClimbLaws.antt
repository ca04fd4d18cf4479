-- One step of a climb, and of the way back.
use Rattle.heap_graph.proofs.Words.{AreClasses, AreFates, Contains, Contains-append_left, Contains-push_cases, Fate}
use Rattle.heap_graph.proofs.Words.{IsClimb, IsFate, IsKnown, IsPath, IsSettled, IsStep, IsTop, IsUnder, List, Sight}
use Rattle.heap_graph.proofs.Words.{Step, SubRecord, TableEntry, [], arith, ids_of, inl, inr, length, set, slice_index}
use Rattle.heap_graph.proofs.Words.{subst, sym, ℕ, ⊎_elim, ◌++◌, ◌<◌, ◌∷◌, ◌≡◌, ◌⊎◌}
use Rattle.heap_graph.specs.declared.classes.chains.Step.TheVariants as steps
use Rattle.heap_graph.specs.declared.classes.fate.Fate.TheVariants as fates
use Rattle.heap_graph.proofs.ClassTableLaws.{numbered, same_count, under}
use Rattle.heap_graph.proofs.FateLaws.{fates_off, fates_on, known_set, stay_known}
use Rattle.heap_graph.proofs.PathLaws.{path_end, path_off, path_on}

module _ (v : Sight) (heap : List SubRecord) (entries : List TableEntry) (first : ℕ) (path : List ℕ)
    (known : List Fate) (at : ℕ) where
  -- what is found above the class, once the class is on the path
  abbrev Finds : Step → Type 0
  Finds step = (super : ℕ) → AreFates v.id_size heap (ids_of entries) (path ++ at ∷ []) (set known at fates.OnPath)
      → IsUnder heap (ids_of entries) at super → IsPath heap (ids_of entries) (path ++ at ∷ []) super
      → IsStep v.id_size heap (ids_of entries) (set known at fates.OnPath) super step

  module _ (are : AreClasses v heap entries) (climb : IsClimb v.id_size heap (ids_of entries) first path known at) where
    class_under : (super : ℕ) × IsUnder heap (ids_of entries) at super
    class_under =
        let below : at < length entries = omega (arith, climb.below, same_count entries) in
        let it = numbered v heap entries at are below in
        (it.holds.class.super, under v heap entries at it below)

    on : AreFates v.id_size heap (ids_of entries) (path ++ at ∷ []) (set known at fates.OnPath)
    on = fates_on at climb.fates_are climb.below

    pub climb_step : (next : ℕ) → Finds (steps.Up next)
        → IsClimb v.id_size heap (ids_of entries) first (path ++ at ∷ []) (set known at fates.OnPath) next
    climb_step next finds =
        let u = class_under in
        let p = path_on heap (ids_of entries) path at u.0 climb.path_is u.1 in
        let step = finds u.0 on u.1 p in
        record {
          fates_are = on;
          path_is = subst (IsPath heap (ids_of entries) (path ++ at ∷ [])) (sym step.1) p;
          below = step.0;
          unknown = step.2;
          from = Contains-append_left (path ++ at ∷ []) (next ∷ []) first climb.from;
        }

    pub climb_end : (fate : Fate) → Finds (steps.End fate)
        → AreFates v.id_size heap (ids_of entries) (path ++ at ∷ []) (set known at fates.OnPath)
        × IsTop v.id_size heap (ids_of entries) (path ++ at ∷ []) fate × Contains (path ++ at ∷ []) first
    climb_end fate finds =
        let u = class_under in
        let p = path_on heap (ids_of entries) path at u.0 climb.path_is u.1 in
        let step = finds u.0 on u.1 p in
        (on, record { super = u.0; path_is = p; fate_is = step.0; settled = step.1 }, climb.from)

-- ---- on the way back

module _ {s : ℕ} {heap : List SubRecord} {ids path : List ℕ} {above : Fate} (rest : List ℕ) (k : ℕ)
    (e : path ≡ rest ++ k ∷ []) (top : IsTop s heap ids path above) where
  to_top : IsPath heap ids (rest ++ k ∷ []) top.super
  to_top = subst (λ (p : List ℕ). IsPath heap ids p top.super) e top.path_is

  pub last_under : (super : ℕ) × IsUnder heap ids k super × IsFate s heap ids super above
  last_under = (top.super, path_end heap ids rest k top.super to_top, top.fate_is)

  module _ (f : Fate) (up : (super : ℕ) → IsUnder heap ids k super → IsFate s heap ids super above
      → IsFate s heap ids (slice_index ids k) f) (settles : IsSettled above → IsSettled f) where
    pub back_fates : (known : List Fate) → AreFates s heap ids path known → AreFates s heap ids rest (set known k f)
    back_fates known are =
        let u = last_under in
        fates_off rest k f (subst (λ (p : List ℕ). AreFates s heap ids p known) e are) u.1.below (up u.0 u.1 u.2)
        (settles top.settled)

    pub back_top : IsTop s heap ids rest f
    back_top = record {
      super = slice_index ids k;
      path_is = path_off heap ids rest k top.super to_top;
      fate_is = up last_under.0 last_under.1 last_under.2;
      settled = settles top.settled;
    }

pub back_known : (path rest : List ℕ) (known : List Fate) (k j : ℕ) (f : Fate) → path ≡ rest ++ k ∷ []
    → k < length known → IsSettled f → Contains path j ⊎ IsKnown known j → Contains rest j ⊎ IsKnown (set known k f) j
back_known path rest known k j f e h settled it = ⊎_elim
    (λ c. ⊎_elim inl (λ same. inr (subst (IsKnown (set known k f)) same (known_set known k f h settled)))
    (Contains-push_cases rest k j (subst (λ (p : List ℕ). Contains p j) e c)))
    (λ d. inr (stay_known known k f h settled j d))
    it
