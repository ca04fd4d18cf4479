-- Lists whose spellings begin the same text: if no spelling begins another, one list continues the other.
use Rattle.hprof_grammar.proofs.Words.{AllByRecursion, List, [], ap, append-nil, append_assoc, arith, flat_map, inl}
use Rattle.hprof_grammar.proofs.Words.{inr, length, length-append, refl, sym, ℕ, ◌++◌, ◌<◌, ◌∙◌, ◌∷◌, ◌≡◌, ◌≤◌, ◌⊎◌}
use Rattle.hprof_grammar.proofs.Fields.{all_split}

-- no spelling begins the spelling of another value
abbrev pub IsDetermined : {A : Type 0} → (A → List ℕ) → (A → Type 0) → Type 0
IsDetermined {A = A} spell Is = (x y : A) (rest more : List ℕ) → Is x → Is y → spell x ++ rest ≡ spell y ++ more
    → (x ≡ y) × (rest ≡ more)

-- ys are xs and then more elements, whose text is the beginning of `rest`
abbrev pub GoesOn : {A : Type 0} → (A → List ℕ) → List A → List A → List ℕ → List ℕ → Type 0
GoesOn {A = A} spell xs ys rest more = (zs : List A) × (ys ≡ xs ++ zs) × (rest ≡ flat_map spell zs ++ more)

module _ {A : Type 0} (spell : A → List ℕ) (Is : A → Type 0) (determined : IsDetermined spell Is) where
  pub fronts : (xs ys : List A) (rest more : List ℕ) → AllByRecursion Is xs → AllByRecursion Is ys
      → flat_map spell xs ++ rest ≡ flat_map spell ys ++ more
      → GoesOn spell xs ys rest more ⊎ GoesOn spell ys xs more rest
  fronts [] ys rest more h k e = inl (ys, refl, e)
  fronts (x ∷ xs) [] rest more h k e = inr (x ∷ xs, refl, sym e)
  fronts (x ∷ xs) (y ∷ ys) rest more h k e =
      let d = determined x y (flat_map spell xs ++ rest) (flat_map spell ys ++ more) h.0 k.0
      (sym (append_assoc (spell x) (flat_map spell xs) rest) ∙ e
      ∙ append_assoc (spell y) (flat_map spell ys) more) in
      elim (fronts xs ys rest more h.1 k.1 d.1) [
        | inl g ↦ inl (g.0, rw (d.0, g.1) refl, g.2)
        | inr g ↦ inr (g.0, rw (d.0, g.1) refl, g.2)
      ]

  -- a list that goes on with no more elements ends at the same place
  goes_nowhere : (xs ys : List A) (rest more : List ℕ) → length ys ≤ length xs → GoesOn spell xs ys rest more
      → (ys ≡ xs) × (rest ≡ more)
  goes_nowhere xs ys rest more h g = none g.0 g.1 g.2 where
    none : (zs : List A) → ys ≡ xs ++ zs → rest ≡ flat_map spell zs ++ more → (ys ≡ xs) × (rest ≡ more)
    none [] e k = (e ∙ append-nil xs, k)
    none (z ∷ zs) e k = absurd (omega (arith, ap length e, length-append xs (z ∷ zs)))

  -- lists of one length that begin the same text are equal
  pub same_fronts : (xs ys : List A) (rest more : List ℕ) → length xs ≡ length ys → AllByRecursion Is xs
      → AllByRecursion Is ys → flat_map spell xs ++ rest ≡ flat_map spell ys ++ more → (xs ≡ ys) × (rest ≡ more)
  same_fronts xs ys rest more n h k e = elim (fronts xs ys rest more h k e) [
    | inl g ↦ let s = goes_nowhere xs ys rest more (omega arith) g in (sym s.0, s.1)
    | inr g ↦ let s = goes_nowhere ys xs more rest (omega arith) g in (s.0, sym s.1)
  ]

  -- if no element can follow xs, no other list is longer
  pub longest_front : (xs ys : List A) (rest more : List ℕ) → AllByRecursion Is xs → AllByRecursion Is ys
      → ((z : A) (left : List ℕ) → Is z → rest ≡ spell z ++ left → ⊥)
      → flat_map spell xs ++ rest ≡ flat_map spell ys ++ more → length ys ≤ length xs
  longest_front xs ys rest more h k stops e = elim (fronts xs ys rest more h k e) [
    | inl g ↦ ends g.0 g.1 g.2
    | inr g ↦ omega (arith, ap length g.1, length-append ys g.0)
  ] where
    ends : (zs : List A) → ys ≡ xs ++ zs → rest ≡ flat_map spell zs ++ more → length ys ≤ length xs
    ends [] p q = omega (arith, ap length p, length-append xs [])
    ends (z ∷ zs) p q =
        let all = all_split Is xs (z ∷ zs) (rw p at k) in
        absurd (stops z (flat_map spell zs ++ more) all.1.0 (q ∙ append_assoc (spell z) (flat_map spell zs) more))

  -- a text is spelled by at most one list
  pub same_list : ((x : A) → 0 < length (spell x)) → (xs ys : List A) → AllByRecursion Is xs → AllByRecursion Is ys
      → flat_map spell xs ≡ flat_map spell ys → xs ≡ ys
  same_list some xs ys h k e = elim
      (fronts xs ys [] [] h k (append-nil (flat_map spell xs) ∙ e ∙ sym (append-nil (flat_map spell ys)))) [
        | inl g ↦ sym (empty xs ys g.0 g.1 g.2)
        | inr g ↦ empty ys xs g.0 g.1 g.2
      ] where
        empty : (us vs zs : List A) → vs ≡ us ++ zs → [] ≡ flat_map spell zs ++ [] → vs ≡ us
        empty us vs [] p q = p ∙ append-nil us
        empty us vs (z ∷ zs) p q = absurd
            (omega (
              arith,
              some z,
              ap length q,
              length-append (spell z) (flat_map spell zs),
              length-append (flat_map spell (z ∷ zs)) [],
            ))
