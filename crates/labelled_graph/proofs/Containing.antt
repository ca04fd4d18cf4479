-- The elements of a list of references.
use Rattle.std.proofs.Common.{Contains, List, None, Option, Some, [], add-zero, ap, arith, get_or, inl, inr, length}
use Rattle.std.proofs.Common.{map, refl, slice_get}
use Rattle.std.proofs.Common.{suc, sym, zero, ℕ, ⊎_elim, ◌+◌, ◌<◌, ◌∙◌, ◌∷◌, ◌≡◌, ◌⊎◌}
use Rattle.std.proofs.lemmas.Option.{none-some, same_Some}
use Rattle.std.specs.List.{cons_option}
use Rattle.label_flow.specs.declared.graph.Reference.{Reference}
use Rattle.labelled_graph.specs.declared.mark.Mark.{Mark}
use Rattle.labelled_graph.specs.declared.mark.Mark.TheVariants.{Cut, Labels}
use Rattle.labelled_graph.specs.working.Kept.{kept, reference_of}

module _ {X : Type 0} where
  contains_at : (a : X) (xs : List X) (x : X) (i : ℕ) → i < length (a ∷ xs) → get_or (a ∷ xs) i x ≡ x
      → (a ≡ x) ⊎ Contains xs x
  contains_at a xs x zero h e = inl e
  contains_at a xs x (suc i) h e = inr (i, omega (arith, h), e)

  pub contains_cases : (a : X) (xs : List X) (x : X) → Contains (a ∷ xs) x → (a ≡ x) ⊎ Contains xs x
  contains_cases a xs x c = contains_at a xs x c.0 c.1 c.2

  pub contains_first : (a : X) (xs : List X) (x : X) → a ≡ x → Contains (a ∷ xs) x
  contains_first a xs x e = (0, omega arith, e)

  pub contains_rest : (a : X) (xs : List X) (x : X) → Contains xs x → Contains (a ∷ xs) x
  contains_rest a xs x c = (suc c.0, omega (arith, c.1), c.2)

  pub option_cases : (o : Option X) (xs : List X) (x : X) → Contains (cons_option o xs) x → (o ≡ Some x) ⊎ Contains xs x
  option_cases None xs x c = inr c
  option_cases (Some a) xs x c = ⊎_elim (λ e. inl (ap Some e)) inr (contains_cases a xs x c)

  pub option_first : (o : Option X) (xs : List X) (x : X) → o ≡ Some x → Contains (cons_option o xs) x
  option_first None xs x e = absurd (none-some x e)
  option_first (Some a) xs x e = contains_first a xs x (same_Some a x e)

  pub option_rest : (o : Option X) (xs : List X) (x : X) → Contains xs x → Contains (cons_option o xs) x
  option_rest None xs x c = c
  option_rest (Some a) xs x c = contains_rest a xs x c

-- ---- the references that are kept

ref_parts : (n : Option ℕ) (m : Mark) (r : Reference) → reference_of n m ≡ Some r
    → (n ≡ Some r.object) × (m ≡ Labels r.labels)
ref_parts None m r e = absurd (none-some r e)
ref_parts (Some b) Cut r e = absurd (none-some r e)
ref_parts (Some b) (Labels s) r e =
    let same = same_Some (record { object = b; labels = s }) r e in
    (ap (λ (x : Reference). Some x.object) same, ap (λ (x : Reference). Labels x.labels) same)

-- a reference that is kept is that of an identifier that is not cut
pub kept_found : (f : ℕ → Mark) (i : ℕ) (ns : List (Option ℕ)) (r : Reference) → Contains (kept f i ns) r
    → (k : ℕ) × (slice_get ns k ≡ Some (Some r.object)) × (f (i + k) ≡ Labels r.labels)
kept_found f i [] r c = absurd (omega (arith, c.1))
kept_found f i (n ∷ ns) r c = ⊎_elim
    (λ e. let parts = ref_parts n (f i) r e in (0, ap Some parts.0, ap f (add-zero i) ∙ parts.1))
    (λ h.
    let rest = kept_found f (i + 1) ns r h in
    let at : i + suc rest.0 ≡ (i + 1) + rest.0 = omega arith in
    (suc rest.0, rest.1, ap f at ∙ rest.2))
    (option_cases (reference_of n (f i)) (kept f (i + 1) ns) r c)

-- and the other way round
pub found_kept : (f : ℕ → Mark) (i : ℕ) (ns : List (Option ℕ)) (k : ℕ) (r : Reference)
    → slice_get ns k ≡ Some (Some r.object)
    → f (i + k) ≡ Labels r.labels → Contains (kept f i ns) r
found_kept f i [] k r at is = absurd (none-some (Some r.object) at)
found_kept f i (n ∷ ns) zero r at is =
    let named : n ≡ Some r.object = same_Some n (Some r.object) at in
    let marked : f i ≡ Labels r.labels = ap f (sym (add-zero i)) ∙ is in
    option_first (reference_of n (f i)) (kept f (i + 1) ns) r (λ j. reference_of (named j) (marked j))
found_kept f i (n ∷ ns) (suc k) r at is =
    let here : (i + 1) + k ≡ i + suc k = omega arith in
    option_rest (reference_of n (f i)) (kept f (i + 1) ns) r (found_kept f (i + 1) ns k r at (ap f here ∙ is))

-- ---- what an identifier names

pub named_found : (h : ℕ → Option ℕ) (xs : List ℕ) (k b : ℕ) → slice_get (map h xs) k ≡ Some (Some b)
    → (id : ℕ) × (slice_get xs k ≡ Some id) × (h id ≡ Some b)
named_found h [] k b is = absurd (none-some (Some b) is)
named_found h (x ∷ xs) zero b is = (x, refl, same_Some (h x) (Some b) is)
named_found h (x ∷ xs) (suc k) b is = named_found h xs k b is

pub found_named : (h : ℕ → Option ℕ) (xs : List ℕ) (k id b : ℕ) → slice_get xs k ≡ Some id → h id ≡ Some b
    → slice_get (map h xs) k ≡ Some (Some b)
found_named h [] k id b at is = absurd (none-some id at)
found_named h (x ∷ xs) zero id b at is = ap Some (ap h (same_Some x id at) ∙ is)
found_named h (x ∷ xs) (suc k) id b at is = found_named h xs k id b at is
