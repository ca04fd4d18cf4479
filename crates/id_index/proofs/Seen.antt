-- The granules of a page that the ascending extents so far have.
use Rattle.id_index.proofs.Words.{AreSeen, AreSorted, List, Extent, ap, arith, bit_at, bit_at-lt, bit_at-zero}
use Rattle.id_index.proofs.Words.{bit_at_or}
use Rattle.id_index.proofs.Words.{bit_or, cases_eq, inl, inr, le-max_left, le-max_right, length, max, page_in, refl}
use Rattle.id_index.proofs.Words.{extent_in, sym, ℕ, ◌+◌, ◌-◌, ◌<◌, ◌∙◌, ◌≡◌, ◌≤◌, ◌⊎◌}
use Rattle.id_index.proofs.Apart.{pages_rise}

pub below_or_at : (at i : ℕ) → i < at + 1 → (i < at) ⊎ (i ≡ at)
below_or_at at i h = elim (cases_eq i at) [ inl e ↦ inr e | inr other ↦ inl (omega (arith, h, other)) ]

one_of : (a b : ℕ) → max a b ≡ 1 → (a ≡ 1) ⊎ (b ≡ 1)
one_of a b e = grind arith

module _ (extents : List Extent) (at page seen before : ℕ) (sorted : AreSorted extents) (below : at < length extents)
    (it : AreSeen extents at page seen) (same : page_in extents at ≡ page → before ≡ seen)
    (other : (page_in extents at ≡ page → ⊥) → before ≡ 0) where
  abbrev here : Extent
  here = extent_in extents at

  -- if the last extent is of another page, no earlier extent is of this page
  pub no_earlier : (last i : ℕ) → last ≡ page_in extents (at - 1) → i < at → page_in extents i ≡ here.page
      → here.page ≡ last
  no_earlier last i is less page_i =
      let low : page_in extents i ≤ page_in extents (at - 1) =
      pages_rise extents sorted.sorted i (at - 1) (omega (arith, less)) (omega (arith, below)) in
      let high : page_in extents (at - 1) ≤ here.page =
      pages_rise extents sorted.sorted (at - 1) at (omega arith) below in
      omega (arith, is, low, high, page_i)

  pub seen_all : (i p : ℕ) → i < at → page_in extents i ≡ here.page → bit_at (extent_in extents i).granules p ≡ 1
      → bit_at before p ≡ 1
  seen_all i p less page_i set =
      let e : here.page ≡ page = no_earlier page i (it.last (omega (arith, less))) less page_i in
      ap (λ (w : ℕ). bit_at w p) (same e) ∙ it.all i p less (page_i ∙ e) set

  pub seen_only : (p : ℕ) → bit_at before p ≡ 1 → (i : ℕ) × (i < at) × (page_in extents i ≡ here.page)
      × (bit_at (extent_in extents i).granules p ≡ 1)
  seen_only p set =
      elim (cases_eq here.page page) [
        | inl e ↦
            let (i, less, page_i, bit) = it.only p (ap (λ (w : ℕ). bit_at w p) (sym (same e)) ∙ set) in
            (i, less, page_i ∙ sym e, bit)
        | inr differs ↦ absurd (omega (arith, ap (λ (w : ℕ). bit_at w p) (other differs), bit_at-zero p, set))
      ]

  either_bit : (p : ℕ) → bit_at (bit_or before here.granules) p ≡ max (bit_at before p) (bit_at here.granules p)
  either_bit p = bit_at_or before here.granules p

  at_least : (p : ℕ) → (bit_at before p ≡ 1) ⊎ (bit_at here.granules p ≡ 1) → bit_at (bit_or before here.granules) p ≡ 1
  at_least p h =
      let high : bit_at (bit_or before here.granules) p < 2 = bit_at-lt (bit_or before here.granules) p in
      elim h [
        | inl e ↦ omega (arith, either_bit p, le-max_left (bit_at before p) (bit_at here.granules p), high, e)
        | inr e ↦ omega (arith, either_bit p, le-max_right (bit_at before p) (bit_at here.granules p), high, e)
      ]

  pub seen_more : AreSeen extents (at + 1) here.page (bit_or before here.granules)
  seen_more = record {
    last = λ some. ap (λ (m : ℕ). page_in extents m) (omega arith);
    all = λ i p less page_i set. elim (below_or_at at i less) [
      | inl old ↦ at_least p (inl (seen_all i p old page_i set))
      | inr e ↦ at_least p (inr (ap (λ (m : ℕ). bit_at (extent_in extents m).granules p) (sym e) ∙ set))
    ];
    only = λ p set. elim (one_of (bit_at before p) (bit_at here.granules p) (sym (either_bit p) ∙ set)) [
      | inl old ↦ let (i, less, page_i, bit) = seen_only p old in (i, omega (arith, less), page_i, bit)
      | inr own ↦ (at, omega arith, refl, own)
    ];
  }
