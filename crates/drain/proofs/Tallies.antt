-- A finish is a push on the finished list and a join is an append: so a tally takes in an object, or another tally.
use Rattle.drain.proofs.Words.{All-from_get_or, Bool, IsMeasureOf, IsSmall, IsTallyOf, List, Measure, Sum, [], ap}
use Rattle.drain.proofs.Words.{arith, cond, eq-eqb, false, get_or, get_or-replicate, get_or-set_other, get_or-set_same}
use Rattle.drain.proofs.Words.{length, length-replicate, length-set, ne_eqb, no_object, one_more, refl, replicate}
use Rattle.drain.proofs.Words.{slice_index_or, slice_set, sum_by, sum_by-append, sum_by-le, sum_by_push, sum_in, sym}
use Rattle.drain.proofs.Words.{together, true, ℕ, ◌*◌, ◌++◌, ◌+◌, ◌<◌, ◌==◌, ◌^◌, ◌∙◌, ◌∷◌, ◌≡◌, ◌≤◌}
use native.Mathlib.Decide.{ℕ_discrete}

-- what an object counts for in a row, and its bytes there
abbrev counts : Measure → ℕ → ℕ → ℕ
counts m n o = cond (m.row o == n) 1 0

abbrev weighs : Measure → ℕ → ℕ → ℕ
weighs m n o = cond (m.row o == n) (m.bytes o) 0

pub none_tallied : (m : Measure) → IsTallyOf m [] (replicate m.rows no_object) 0
none_tallied m = record {
  each = length-replicate m.rows no_object;
  right = λ n below. get_or-replicate m.rows n no_object no_object below;
  unresolved_is = refl;
}

-- what one object more does to the sum of a row
sum_push :
    (m : Measure) (n : ℕ) (xs : List ℕ) (o : ℕ)
    → sum_in m n (xs ++ o ∷ [])
    ≡ record { count = (sum_in m n xs).count + counts m n o; bytes = (sum_in m n xs).bytes + weighs m n o }
sum_push m n xs o = λ k. record { count = sum_by_push (counts m n) xs o k; bytes = sum_by_push (weighs m n) xs o k }

module _ (m : Measure) (objects : List ℕ) (rows : List Sum) (unresolved o : ℕ)
    (was : IsTallyOf m objects rows unresolved)
    (inside : m.row o < m.rows) where
  abbrev more : List Sum
  more = slice_set rows (m.row o) (one_more (slice_index_or rows (m.row o) no_object) (m.bytes o))

  in_its_row : (n : ℕ) → n < m.rows → n ≡ m.row o → get_or more n no_object ≡ sum_in m n (objects ++ o ∷ [])
  in_its_row n below same =
      let hit : (m.row o == n) ≡ true = eq-eqb (m.row o) n (sym same) in
      let before = sum_in m n objects in
      ap (λ k. get_or more k no_object) same
      ∙ get_or-set_same rows (m.row o) _ no_object (omega (arith, was.each, inside))
      ∙ ap (λ s. one_more s (m.bytes o)) (ap (λ k. get_or rows k no_object) (sym same) ∙ was.right n below)
      ∙ (λ k. record {
        count = before.count + cond (sym hit k) 1 0;
        bytes = before.bytes + cond (sym hit k) (m.bytes o) 0;
      })
      ∙ sym (sum_push m n objects o)

  in_another : (n : ℕ) → n < m.rows → (n ≡ m.row o → ⊥) → get_or more n no_object ≡ sum_in m n (objects ++ o ∷ [])
  in_another n below other =
      let miss : (m.row o == n) ≡ false = ne_eqb (m.row o) n (λ e. other (sym e)) in
      let zero_more : (x : ℕ) → x ≡ x + 0 = λ x. omega arith in
      let before = sum_in m n objects in
      get_or-set_other rows (m.row o) n _ no_object other
      ∙ was.right n below
      ∙ (λ k. record { count = zero_more before.count k; bytes = zero_more before.bytes k })
      ∙ (λ k. record {
        count = before.count + cond (sym miss k) 1 0;
        bytes = before.bytes + cond (sym miss k) (m.bytes o) 0;
      })
      ∙ sym (sum_push m n objects o)

  pub one_tallied : IsTallyOf m (objects ++ o ∷ []) more (unresolved + m.unresolved o)
  one_tallied = record {
    each = length-set rows (m.row o) _ ∙ was.each;
    right = right;
    unresolved_is = omega (arith, was.unresolved_is, sum_by_push m.unresolved objects o);
  }
    where
      right : (n : ℕ) → n < m.rows → get_or more n no_object ≡ sum_in m n (objects ++ o ∷ [])
      right n below = go (ℕ_discrete n (m.row o))
        where
          go : Dec (n ≡ m.row o) → get_or more n no_object ≡ sum_in m n (objects ++ o ∷ [])
          go (yes same) = in_its_row n below same
          go (no other) = in_another n below other

pub both_tallied :
    (m : Measure) (xs ys : List ℕ) (a b c : List Sum) (p q : ℕ) → IsTallyOf m xs a p → IsTallyOf m ys b q
    → length c ≡ m.rows
    → ((n : ℕ) → n < m.rows
    → slice_index_or c n no_object ≡ together (slice_index_or a n no_object) (slice_index_or b n no_object))
    → IsTallyOf m (xs ++ ys) c (p + q)
both_tallied m xs ys a b c p q first second long added = record {
  each = long;
  right = λ n below.
      added n below
      ∙ (λ k. together (first.right n below k) (second.right n below k))
      ∙ (λ k. record {
        count = sym (sum_by-append (counts m n) xs ys) k;
        bytes = sym (sum_by-append (weighs m n) xs ys) k;
      });
  unresolved_is = omega (arith, first.unresolved_is, second.unresolved_is, sum_by-append m.unresolved xs ys);
}

at_most : (b : Bool) (x most : ℕ) → x ≤ most → cond b x 0 ≤ most
at_most true x most h = h
at_most false x most h = omega arith

few_in : (objects : List ℕ) (f : ℕ → ℕ) (most : ℕ) → ((o : ℕ) → f o ≤ most) → sum_by f objects ≤ length objects * most
few_in objects f most small =
    sum_by-le f most objects (All-from_get_or (λ x. f x ≤ most) objects 0 (λ k inside. small (get_or objects k 0)))

-- the sums of this few objects are small
pub tally_is_small : {count : ℕ} {m : Measure} {objects : List ℕ} {rows : List Sum} {unresolved : ℕ}
    → IsMeasureOf count m → length objects ≤ count → IsTallyOf m objects rows unresolved → IsSmall rows unresolved
tally_is_small {count} {m} {objects} bounded few is = record {
  counts = λ n inside.
      let here = is.right n (omega (arith, inside, is.each)) in
      let sums = few_in objects (counts m n) 1 (λ o. at_most (m.row o == n) 1 1 (omega arith)) in
      omega (arith, ap (λ (s : Sum). s.count) here, sums, few, bounded.few_objects);
  bytes = λ n inside.
      let here = is.right n (omega (arith, inside, is.each)) in
      let light : (o : ℕ) → weighs m n o ≤ 2 ^ 30 =
      λ o. at_most (m.row o == n) (m.bytes o) (2 ^ 30) (bounded.few_bytes o) in
      let sums = few_in objects (weighs m n) (2 ^ 30) light in
      omega (arith, ap (λ (s : Sum). s.bytes) here, sums, few, bounded.few_objects);
  few_unresolved =
      let sums = few_in objects m.unresolved (2 ^ 33) bounded.few_unresolved in
      omega (arith, is.unresolved_is, sums, few, bounded.few_objects);
}
