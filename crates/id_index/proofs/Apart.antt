-- Extents that are apart stay apart in another order, and ascending extents of a page are in the order of their
-- objects.
use Rattle.id_index.proofs.Words.{AreInTurn, ArePairwiseApart, DoPagesRise, IsApart, IsPermutation, IsPermutation-keeps}
use Rattle.id_index.proofs.Words.{IsSorted, IsStrictWeakOrder, List, Extent, ap, arith, cases_lt, count_ones}
use Rattle.id_index.proofs.Words.{end_of, false, inl, inr, is_lt, length, length-swap, nat_cmp_total, nat_tests}
use Rattle.id_index.proofs.Words.{no_extent}
use Rattle.id_index.proofs.Words.{on_total, page_in, ranks_by, extent_cmp, extent_in, sorted_far, subst, swap}
use Rattle.id_index.proofs.Words.{sym, then_total, zero_from_ones, ℕ, ◌<◌, ◌∙◌, ◌≡◌, ◌≤◌, ◌⊎◌}
use Rattle.id_index.proofs.Ones.{ones_of_bit}
use Rattle.id_index.proofs.Swapped.{came_from}

turned : (x y : Extent) → IsApart x y → IsApart y x
turned x y (inl before) = inr before
turned x y (inr behind) = inl behind

pub apart_in_turn : (extents : List Extent) → AreInTurn extents → ArePairwiseApart extents
apart_in_turn extents turn i j differ left right =
    elim (cases_lt i j) [
      | inl less ↦ inl (turn i j less right)
      | inr more ↦ inr (turn j i (omega (arith, differ, more)) left)
    ]

swap_apart : (extents : List Extent) (a b : ℕ) → a < length extents → b < length extents → ArePairwiseApart extents
    → ArePairwiseApart (swap extents a b)
swap_apart extents a b in_a in_b apart i j differ in_i in_j =
    let len : length (swap extents a b) ≡ length extents = length-swap extents a b in
    let (k, in_k, at_i, from_i) = came_from extents no_extent a b i in_a in_b (omega (arith, in_i, len)) in
    let (m, in_m, at_j, from_j) = came_from extents no_extent a b j in_a in_b (omega (arith, in_j, len)) in
    let other : k ≡ m → ⊥ = λ e. grind (arith, from_i, from_j, e, differ) in
    subst (λ (x : Extent). IsApart x (extent_in (swap extents a b) j)) (sym at_i)
    (subst (λ (y : Extent). IsApart (extent_in extents k) y) (sym at_j) (apart k m other in_k in_m))

pub apart_moved : (xs ys : List Extent) → IsPermutation xs ys → ArePairwiseApart xs → ArePairwiseApart ys
apart_moved xs ys same apart =
    IsPermutation-keeps xs ArePairwiseApart apart
    (λ extents a b in_a in_b it. swap_apart extents a b in_a in_b it) ys same

extent_order : IsStrictWeakOrder (λ (x y : Extent). is_lt (extent_cmp x y))
extent_order = ranks_by (then_total (then_total (on_total (λ (l : Extent). l.page) nat_cmp_total)
    (on_total (λ (l : Extent). l.first) nat_cmp_total)) (on_total (λ (l : Extent). l.granules) nat_cmp_total)) (λ l. l)

-- x is not after y in the order of extents
abbrev pub NotAfter : Extent → Extent → Type 0
NotAfter x y =
    (x.page < y.page)
    ⊎ ((x.page ≡ y.page) × ((x.first < y.first) ⊎ ((x.first ≡ y.first) × (x.granules ≤ y.granules))))

not_after : (x y : Extent) → is_lt (extent_cmp y x) ≡ false → NotAfter x y
not_after x y h = grind (arith, nat_tests)

pub extents_rise : (extents : List Extent) (i j : ℕ) → IsSorted extent_cmp extents → i ≤ j → j < length extents
    → NotAfter (extent_in extents i) (extent_in extents j)
extents_rise extents i j up le below =
    not_after (extent_in extents i) (extent_in extents j)
    (sorted_far (λ x y. is_lt (extent_cmp x y)) extent_order extents up i j no_extent le below)

pub pages_rise : (extents : List Extent) → IsSorted extent_cmp extents → DoPagesRise extents
pages_rise extents up i j le below = elim (extents_rise extents i j up le below) [
  | inl less ↦ omega (arith, less)
  | inr equal ↦ omega (arith, equal.0)
]

-- if two extents of a page are apart, the objects of the earlier extent come first
first_ends : (x y : Extent) → NotAfter x y → IsApart x y → x.page ≡ y.page → end_of x ≤ y.first
first_ends x y order (inl before) same = before
first_ends x y order (inr behind) same =
    elim order [
      | inl less ↦ absurd (omega (arith, less, same))
      | inr rest ↦ elim rest.1 [
        | inl less ↦ absurd (omega (arith, less, behind))
        | inr equal ↦
            let none : count_ones y.granules ≡ 0 = omega (arith, behind, equal.0) in
            let empty : y.granules ≡ 0 = zero_from_ones y.granules none in
            let also : x.granules ≡ 0 = omega (arith, equal.1, empty) in
            let few : count_ones x.granules ≡ 0 = ap count_ones also ∙ ones_of_bit 0 (omega arith) in
            omega (arith, few, equal.0)
      ]
    ]

pub ends_in_turn : (extents : List Extent) (i j : ℕ) → IsSorted extent_cmp extents → ArePairwiseApart extents → i < j
    → j < length extents → page_in extents i ≡ page_in extents j
    → end_of (extent_in extents i) ≤ (extent_in extents j).first
ends_in_turn extents i j up apart less below same =
    first_ends (extent_in extents i) (extent_in extents j) (extents_rise extents i j up (omega (arith, less)) below)
    (apart i j (λ e. omega (arith, e, less)) (omega (arith, less, below)) below) same
