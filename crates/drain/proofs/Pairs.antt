-- The pairs of a graph are its references.
use Rattle.drain.proofs.Words.{All, All-contains, All-from_get_or, Contains, Contains-append_cases}
use Rattle.drain.proofs.Words.{Contains-append_left, Contains-append_right, Contains-get_or, IsWhole, List, ObjectGraph}
use Rattle.drain.proofs.Words.{[], ap, arith, get_or, get_or-map, length, length-map, map, object_count, pairs_from}
use Rattle.drain.proofs.Words.{pairs_of, references_of, slice_index_or, subst, suc, sym, zero, ℕ, ⊎_elim, ◌+◌, ◌<◌, ◌↔◌}
use Rattle.drain.proofs.Words.{◌∙◌, ◌∷◌, ◌≡◌, ◌⊎◌}

-- the pairs of one object
abbrev pair : ℕ → ℕ → ℕ × ℕ
pair first next = (first, next)

abbrev row : ℕ → List ℕ → List (ℕ × ℕ)
row first nexts = map (pair first) nexts

row_there : (first : ℕ) (nexts : List ℕ) (s : ℕ) → Contains nexts s → Contains (row first nexts) (first, s)
row_there first nexts s h = (
  h.0,
  omega (arith, h.1, length-map nexts (pair first)),
  get_or-map (pair first) nexts h.0 s (first, s) h.1
      ∙ ap (pair first) h.2,
)

row_from : (first : ℕ) (nexts : List ℕ) (p : ℕ × ℕ) → Contains (row first nexts) p → (p.0 ≡ first) × Contains nexts p.1
row_from first nexts p h =
    let inside : h.0 < length nexts = omega (arith, h.1, length-map nexts (pair first)) in
    let is : pair first (get_or nexts h.0 p.1) ≡ p = sym (get_or-map (pair first) nexts h.0 p.1 p inside) ∙ h.2 in
    (sym (ap (λ (q : ℕ × ℕ). q.0) is), (h.0, inside, ap (λ (q : ℕ × ℕ). q.1) is))

-- each reference is a pair
pair_there : (first : ℕ) (rs : List (List ℕ)) (k s : ℕ) → Contains (slice_index_or rs k []) s
    → Contains (pairs_from first rs) (first + k, s)
pair_there first [] k s h = absurd (omega (arith, h.1))
pair_there first (r ∷ rs) zero s h =
    let is : first ≡ first + 0 = omega arith in
    subst (λ (o : ℕ). Contains (pairs_from first (r ∷ rs)) (o, s)) is
    (Contains-append_left (row first r) (pairs_from (first + 1) rs) (first, s) (row_there first r s h))
pair_there first (r ∷ rs) (suc k) s h =
    let is : (first + 1) + k ≡ first + suc k = omega arith in
    let there = pair_there (first + 1) rs k s h in
    subst (λ (o : ℕ). Contains (pairs_from first (r ∷ rs)) (o, s)) is
    (Contains-append_right (row first r) (pairs_from (first + 1) rs) ((first + 1) + k, s) there)

-- a pair of an object, counted from `first`, and one that it refers to
abbrev IsPairFrom : ℕ → List (List ℕ) → ℕ × ℕ → Type 0
IsPairFrom first rs p = (k : ℕ) × (k < length rs) × (p.0 ≡ first + k) × Contains (slice_index_or rs k []) p.1

-- each pair is a reference
pair_from : (first : ℕ) (rs : List (List ℕ)) (p : ℕ × ℕ) → Contains (pairs_from first rs) p → IsPairFrom first rs p
pair_from first [] p h = absurd (omega (arith, h.1))
pair_from first (r ∷ rs) p h =
    go (pair_from (first + 1) rs p) (Contains-append_cases (row first r) (pairs_from (first + 1) rs) p h)
  where
    here : Contains (row first r) p → IsPairFrom first (r ∷ rs) p
    here k = let from = row_from first r p k in (0, omega arith, omega (arith, from.0), from.1)

    later : IsPairFrom (first + 1) rs p → IsPairFrom first (r ∷ rs) p
    later f = (suc f.0, omega (arith, f.1), omega (arith, f.2), f.3)

    go : (Contains (pairs_from (first + 1) rs) p → IsPairFrom (first + 1) rs p)
        → Contains (row first r) p ⊎ Contains (pairs_from (first + 1) rs) p → IsPairFrom first (r ∷ rs) p
    go rest either = ⊎_elim here (λ k. later (rest k)) either

-- what an object refers to
pub pair_is_reference : (g : ObjectGraph) (o s : ℕ) → Contains (references_of g o) s ↔ Contains (pairs_of g) (o, s)
pair_is_reference g o s = (
  λ h.
      let is : 0 + o ≡ o = omega arith in
      subst (λ (k : ℕ). Contains (pairs_of g) (k, s)) is (pair_there 0 g.references o s h),
  λ h.
      let from = pair_from 0 g.references (o, s) h in
      let is : from.0 ≡ o = omega (arith, from.2) in
      subst (λ (k : ℕ). Contains (slice_index_or g.references k []) s) is from.3,
)

-- pairs are of objects
pub pairs_within : (g : ObjectGraph) → IsWhole g
    → All (λ p. (p.0 < object_count g) × (p.1 < object_count g)) (pairs_of g)
pairs_within g whole =
    All-from_get_or (λ (p : ℕ × ℕ). (p.0 < object_count g) × (p.1 < object_count g)) (pairs_of g) (0, 0)
    (λ k inside.
    let p = get_or (pairs_of g) k (0, 0) in
    let from = pair_from 0 g.references p (Contains-get_or (pairs_of g) k (0, 0) inside) in (
      omega (arith, from.1, from.2),
      All-contains (λ b. b < object_count g) (references_of g from.0) p.1
          (whole.references_within from.0) from.3,
    ))
