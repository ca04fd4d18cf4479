-- Formats made of others: one after another, lists, values under other names, and a list after its count.
use Rattle.hprof_grammar.proofs.Words.{AllByRecursion, AreAllowed, Err, Field, Flaw, IsAllowed, List, Ok, Result, []}
use Rattle.hprof_grammar.proofs.Words.{ap, arith, as_at, counted_at, flat_map, inl, inr, length, list_at, number, refl}
use Rattle.hprof_grammar.proofs.Words.{replicate, spelled, subst, suc, sym, then_at, zero, ℕ, ◌++◌, ◌<◌, ◌>>=◌, ◌^◌}
use Rattle.hprof_grammar.proofs.Words.{◌∙◌, ◌∷◌, ◌≡◌}
use Rattle.hprof_grammar.proofs.Bytes.{IsBytes, bytes-behind}
use Rattle.hprof_grammar.proofs.Fields.{Breaks, all_join, all_split, breaks_first, breaks_never, breaks_second}
use Rattle.hprof_grammar.proofs.Fields.{breaks_split, spelled_then}
use Rattle.hprof_grammar.proofs.Format.{IsFormat, Taken, bind_err, bind_ok, map_err, number_format, ok_same}

-- the value was taken from bytes, and the rest is bytes too
module _ {A : Type 0} {W : A → Type 0} {fields : A → List Field} {bytes : List ℕ} {x : A} {rest : List ℕ}
    (t : Taken W fields bytes x rest) where
  rest_bytes : IsBytes bytes → IsBytes rest
  rest_bytes h = bytes-behind (spelled (fields x)) rest (subst IsBytes t.bytes_are h)

  -- reading breaks off after the value that was taken
  breaks_behind : {gs : List Field} {flaw : Flaw} → Breaks flaw gs rest → Breaks flaw (fields x ++ gs) bytes
  breaks_behind {gs} {flaw} b =
      subst (Breaks flaw (fields x ++ gs)) (sym t.bytes_are) (breaks_second flaw (fields x) gs rest t.allowed b)

-- ---- one format after another, which may depend on the value of the first

module _ {A B : Type 0} {W : A → Type 0} {F : A → List Field} {r : List ℕ → Result (A × List ℕ) Flaw}
    {V : A → B → Type 0} {G : A → B → List Field} {q : A → List ℕ → Result (B × List ℕ) Flaw}
    (first : IsFormat W F r) (second : (a : A) → IsFormat (V a) (G a) (q a)) where
  pair_takes : (bytes : List ℕ) (z : (A × B) × List ℕ) → IsBytes bytes → then_at r q bytes ≡ Ok z
      → Taken (λ (p : A × B). W p.0 × V p.0 p.1) (λ p. F p.0 ++ G p.0 p.1) bytes z.0 z.1
  pair_takes bytes z h e =
      let a = bind_ok (r bytes) (λ x. q x.0 x.1 >>= λ y. Ok ((x.0, y.0), y.1)) z e in
      let b = bind_ok (q a.0.0 a.0.1) (λ y. Ok ((a.0.0, y.0), y.1)) z a.2 in
      let s = first.takes bytes a.0 h a.1 in
      let t = (second a.0.0).takes a.0.1 b.0 (rest_bytes s h) b.1 in
      rw (← ok_same {E = Flaw} ((a.0.0, b.0.0), b.0.1) z b.2) (record {
        well = (s.well, t.well);
        allowed = all_join IsAllowed (F a.0.0) (G a.0.0 b.0.0) s.allowed t.allowed;
        bytes_are = s.bytes_are ∙ ap (λ (x : List ℕ). spelled (F a.0.0) ++ x) t.bytes_are
            ∙ sym (spelled_then (F a.0.0) (G a.0.0 b.0.0) b.0.1);
      })

  pair_again : (p : A × B) (rest : List ℕ) → W p.0 × V p.0 p.1 → AreAllowed (F p.0 ++ G p.0 p.1)
      → then_at r q (spelled (F p.0 ++ G p.0 p.1) ++ rest) ≡ Ok (p, rest)
  pair_again p rest h allowed =
      let parts = all_split IsAllowed (F p.0) (G p.0 p.1) allowed in
      rw (spelled_then (F p.0) (G p.0 p.1) rest)
      (rw (first.again p.0 (spelled (G p.0 p.1) ++ rest) h.0 parts.0)
      (rw ((second p.0).again p.1 rest h.1 parts.1) refl))

  pair_fails : (bytes : List ℕ) (flaw : Flaw) → IsBytes bytes → then_at r q bytes ≡ Err flaw → (p : A × B)
      × (W p.0 × V p.0 p.1) × Breaks flaw (F p.0 ++ G p.0 p.1) bytes
  pair_fails bytes flaw h e = elim (bind_err (r bytes) (λ x. q x.0 x.1 >>= λ y. Ok ((x.0, y.0), y.1)) flaw e) [
    | inl f ↦
        let a = first.fails bytes flaw h f in
        let b = second a.0 in
        ((a.0, b.sample), (a.1, b.sample_well), breaks_first flaw (F a.0) (G a.0 b.sample) bytes a.2)
    | inr a ↦
        let s = first.takes bytes a.0 h a.1 in
        let f = map_err (q a.0.0 a.0.1) (λ y. ((a.0.0, y.0), y.1)) flaw a.2 in
        let b = (second a.0.0).fails a.0.1 flaw (rest_bytes s h) f in
        ((a.0.0, b.0), (s.well, b.1), breaks_behind s b.2)
  ]

  pair_fails_again : (p : A × B) (bytes : List ℕ) (flaw : Flaw) → W p.0 × V p.0 p.1
      → Breaks flaw (F p.0 ++ G p.0 p.1) bytes → then_at r q bytes ≡ Err flaw
  pair_fails_again p bytes flaw h b = elim (breaks_split flaw (F p.0) (G p.0 p.1) bytes b) [
    | inl f ↦ rw (first.fails_again p.0 bytes flaw h.0 f) refl
    | inr s ↦ rw (s.2) (rw (first.again p.0 s.0 h.0 s.1) (rw ((second p.0).fails_again p.1 s.0 flaw h.1 s.3) refl))
  ]

  pub pair_format : IsFormat (λ (p : A × B). W p.0 × V p.0 p.1) (λ p. F p.0 ++ G p.0 p.1) (then_at r q)
  pair_format = record {
    sample = (first.sample, (second first.sample).sample);
    sample_well = (first.sample_well, (second first.sample).sample_well);
    takes = pair_takes;
    again = pair_again;
    fails = pair_fails;
    fails_again = pair_fails_again;
  }

infixr 4 ◌⨾◌
-- the second does not depend on the first
pub ◌⨾◌ : {A B : Type 0} {W : A → Type 0} {F : A → List Field} {r : List ℕ → Result (A × List ℕ) Flaw} {V : B → Type 0}
    {G : B → List Field} {q : List ℕ → Result (B × List ℕ) Flaw} → IsFormat W F r → IsFormat V G q
    → IsFormat (λ (p : A × B). W p.0 × V p.1) (λ p. F p.0 ++ G p.1) (then_at r (λ _. q))
first ⨾ second = pair_format first (λ _. second)

-- ---- n values of one format

module _ {A : Type 0} {W : A → Type 0} {F : A → List Field} {r : List ℕ → Result (A × List ℕ) Flaw}
    (one : IsFormat W F r) where
  list_takes : (n : ℕ) (bytes : List ℕ) (z : List A × List ℕ) → IsBytes bytes → list_at r n bytes ≡ Ok z
      → Taken (λ xs. (length xs ≡ n) × AllByRecursion W xs) (λ xs. flat_map F xs) bytes z.0 z.1
  list_takes zero bytes z h e =
      rw (← ok_same {E = Flaw} ([], bytes) z e) (record { well = (refl, tt); allowed = tt; bytes_are = refl })
  list_takes (suc n) bytes z h e =
      let a = bind_ok (r bytes) (λ x. list_at r n x.1 >>= λ xs. Ok (x.0 ∷ xs.0, xs.1)) z e in
      let b = bind_ok (list_at r n a.0.1) (λ xs. Ok (a.0.0 ∷ xs.0, xs.1)) z a.2 in
      let s = one.takes bytes a.0 h a.1 in
      let t = list_takes n a.0.1 b.0 (rest_bytes s h) b.1 in
      rw (← ok_same {E = Flaw} (a.0.0 ∷ b.0.0, b.0.1) z b.2) (record {
        well = (omega (arith, t.well.0), (s.well, t.well.1));
        allowed = all_join IsAllowed (F a.0.0) (flat_map F b.0.0) s.allowed t.allowed;
        bytes_are = s.bytes_are ∙ ap (λ (x : List ℕ). spelled (F a.0.0) ++ x) t.bytes_are
            ∙ sym (spelled_then (F a.0.0) (flat_map F b.0.0) b.0.1);
      })

  list_again : (n : ℕ) (xs : List A) (rest : List ℕ) → (length xs ≡ n) × AllByRecursion W xs
      → AreAllowed (flat_map F xs) → list_at r n (spelled (flat_map F xs) ++ rest) ≡ Ok (xs, rest)
  list_again zero [] rest h allowed = refl
  list_again zero (x ∷ xs) rest h allowed = absurd (omega (arith, h.0))
  list_again (suc n) [] rest h allowed = absurd (omega (arith, h.0))
  list_again (suc n) (x ∷ xs) rest h allowed =
      let parts = all_split IsAllowed (F x) (flat_map F xs) allowed in
      rw (spelled_then (F x) (flat_map F xs) rest)
      (rw (one.again x (spelled (flat_map F xs) ++ rest) h.1.0 parts.0)
      (rw (list_again n xs rest (omega (arith, h.0), h.1.1) parts.1) refl))

  samples_well : (n : ℕ) → (length (replicate n one.sample) ≡ n) × AllByRecursion W (replicate n one.sample)
  samples_well zero = (refl, tt)
  samples_well (suc n) = let s = samples_well n in (omega (arith, s.0), (one.sample_well, s.1))

  list_fails : (n : ℕ) (bytes : List ℕ) (flaw : Flaw) → IsBytes bytes → list_at r n bytes ≡ Err flaw → (xs : List A)
      × ((length xs ≡ n) × AllByRecursion W xs) × Breaks flaw (flat_map F xs) bytes
  list_fails zero bytes flaw h e =
      absurd (let k : ◌≡◌ {A = Result (List A × List ℕ) Flaw} (Ok ([], bytes)) (Err flaw) = e in cc)
  list_fails (suc n) bytes flaw h e =
      elim (bind_err (r bytes) (λ x. list_at r n x.1 >>= λ xs. Ok (x.0 ∷ xs.0, xs.1)) flaw e) [
        | inl f ↦
            let a = one.fails bytes flaw h f in
            let some = samples_well n in (
              a.0 ∷ replicate n one.sample,
              (omega (arith, some.0), (a.1, some.1)),
              breaks_first flaw (F a.0) (flat_map F (replicate n one.sample)) bytes a.2,
            )
        | inr a ↦
            let s = one.takes bytes a.0 h a.1 in
            let f = map_err (list_at r n a.0.1) (λ xs. (a.0.0 ∷ xs.0, xs.1)) flaw a.2 in
            let b = list_fails n a.0.1 flaw (rest_bytes s h) f in (
              a.0.0 ∷ b.0,
              (omega (arith, b.1.0), (s.well, b.1.1)),
              breaks_behind s b.2,
            )
      ]

  list_fails_again : (n : ℕ) (xs : List A) (bytes : List ℕ) (flaw : Flaw) → (length xs ≡ n) × AllByRecursion W xs
      → Breaks flaw (flat_map F xs) bytes → list_at r n bytes ≡ Err flaw
  list_fails_again n [] bytes flaw h b = absurd (breaks_never flaw bytes b)
  list_fails_again zero (x ∷ xs) bytes flaw h b = absurd (omega (arith, h.0))
  list_fails_again (suc n) (x ∷ xs) bytes flaw h b = elim (breaks_split flaw (F x) (flat_map F xs) bytes b) [
    | inl f ↦ rw (one.fails_again x bytes flaw h.1.0 f) refl
    | inr s ↦ rw (s.2) (rw (one.again x s.0 h.1.0 s.1)
        (rw (list_fails_again n xs s.0 flaw (omega (arith, h.0), h.1.1) s.3) refl))
  ]

  pub list_format : (n : ℕ) → IsFormat (λ xs. (length xs ≡ n) × AllByRecursion W xs) (λ xs. flat_map F xs) (list_at r n)
  list_format n = record {
    sample = replicate n one.sample;
    sample_well = samples_well n;
    takes = list_takes n;
    again = list_again n;
    fails = list_fails n;
    fails_again = list_fails_again n;
  }

-- ---- the same values under other names

-- maps between the values of two formats that are spelled alike
pub record Recasts {A B : Type 0} (W : A → Type 0) (F : A → List Field) (V : B → Type 0) (G : B → List Field)
    (to : A → B) (from : B → A) : Type 0 where
  pub well_to : (a : A) → W a → V (to a)
  pub well_from : (b : B) → V b → W (from b)
  pub fields_to : (a : A) → W a → G (to a) ≡ F a
  pub fields_from : (b : B) → V b → G b ≡ F (from b)
  pub back : (b : B) → V b → to (from b) ≡ b

module _ {A B : Type 0} {W : A → Type 0} {F : A → List Field} {r : List ℕ → Result (A × List ℕ) Flaw} {V : B → Type 0}
    {G : B → List Field} {to : A → B} {from : B → A}
    (under : IsFormat W F r) (same : Recasts W F V G to from) where
  as_takes : (bytes : List ℕ) (z : B × List ℕ) → IsBytes bytes → as_at to r bytes ≡ Ok z → Taken V G bytes z.0 z.1
  as_takes bytes z h e =
      let a = bind_ok (r bytes) (λ x. Ok (to x.0, x.1)) z e in
      let s = under.takes bytes a.0 h a.1 in
      let g = same.fields_to a.0.0 s.well in
      rw (← ok_same {E = Flaw} (to a.0.0, a.0.1) z a.2)
      (record { well = same.well_to a.0.0 s.well; allowed = rw g s.allowed; bytes_are = rw g s.bytes_are })

  as_again : (b : B) (rest : List ℕ) → V b → AreAllowed (G b) → as_at to r (spelled (G b) ++ rest) ≡ Ok (b, rest)
  as_again b rest h allowed =
      let g = same.fields_from b h in
      let ok : AreAllowed (F (from b)) = subst AreAllowed g allowed in
      rw g (rw (under.again (from b) rest (same.well_from b h) ok) (rw (same.back b h) refl))

  as_fails : (bytes : List ℕ) (flaw : Flaw) → IsBytes bytes → as_at to r bytes ≡ Err flaw → (b : B) × V b
      × Breaks flaw (G b) bytes
  as_fails bytes flaw h e =
      let a = under.fails bytes flaw h (map_err (r bytes) (λ x. (to x.0, x.1)) flaw e) in
      (to a.0, same.well_to a.0 a.1, rw (same.fields_to a.0 a.1) a.2)

  as_fails_again : (b : B) (bytes : List ℕ) (flaw : Flaw) → V b → Breaks flaw (G b) bytes → as_at to r bytes ≡ Err flaw
  as_fails_again b bytes flaw h f =
      rw (under.fails_again (from b) bytes flaw (same.well_from b h)
      (subst (λ (x : List Field). Breaks flaw x bytes) (same.fields_from b h) f)) refl

  pub as_format : IsFormat V G (as_at to r)
  as_format = record {
    sample = to under.sample;
    sample_well = same.well_to under.sample under.sample_well;
    takes = as_takes;
    again = as_again;
    fails = as_fails;
    fails_again = as_fails_again;
  }

-- ---- a count, and that number of values

pub counted_format : {A : Type 0} {W : A → Type 0} {F : A → List Field} {r : List ℕ → Result (A × List ℕ) Flaw}
    (w : ℕ) → IsFormat W F r
    → IsFormat (λ xs. (length xs < 256 ^ w) × AllByRecursion W xs) (λ xs. number w (length xs) ∷ flat_map F xs)
    (counted_at w r)
counted_format {A = A} {W = W} {F = F} w one =
    as_format {from = λ (xs : List A). (length xs, xs)} (pair_format (number_format w) (λ (n : ℕ). list_format one n))
    (record {
      well_to = λ p h. (rw (h.1.0) h.0, h.1.1);
      well_from = λ xs h. (h.0, (refl, h.1));
      fields_to = λ p h. rw (h.1.0) refl;
      fields_from = λ xs h. refl;
      back = λ xs h. refl;
    })
