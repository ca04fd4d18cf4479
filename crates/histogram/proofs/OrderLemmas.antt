-- The order of a histogram's rows is total, only equal entries are equal in it, and a list has one arrangement in it.
use Rattle.std.proofs.Common.{◌≡◌, ℕ, ◌+◌, ◌<◌, Bool, IsPermutation, IsSorted, List, [], ◌∷◌, true, false, cond, suc}
use Rattle.std.proofs.Common.{length, map, get_or, count_by, refl, sym, ap, subst, ◌∙◌, arith}
use Rattle.std.specs.Cmp.{IsTotalOrder}
use Rattle.std.specs.List.Sorted.{IsSortedBy}
use Rattle.std.specs.Ordering.{MatchOrdering, is_lt, nat_cmp, ordering_reverse, ordering_then}
use Rattle.std.specs.declared.cmp.Ordering.{Ordering}
use Rattle.std.specs.declared.cmp.Ordering.TheVariants.{Equal, Greater, Less}
use Rattle.std.proofs.lemmas.Cmp.{back_total, nat_cmp_total, nat_list_cmp_total, on_total, ranked, then_total}
use Rattle.std.proofs.lemmas.List.{get_or-map, length-map}
use Rattle.std.proofs.lemmas.List.Sorted.{ranks_by, sorted_far, sum_by-IsPermutation}
use Rattle.std.proofs.lemmas.List.Sums.{sum_by-cons}
use Rattle.std.proofs.lemmas.Map.Lookups.{exact_bytes}
use Rattle.histogram.specs.Histogram.{Entry, compare}

pub compare_total : IsTotalOrder compare
compare_total = then_total (back_total (on_total (λ (e : Entry). e.bytes) nat_cmp_total))
    (then_total (back_total (on_total (λ (e : Entry). e.count) nat_cmp_total))
    (then_total (on_total (λ (e : Entry). e.name) nat_list_cmp_total)
    (on_total (λ (e : Entry). e.class) nat_cmp_total)))

-- if a list is sorted by what its elements show, then what they show is sorted
pub sorted_map : {X Y : Type 0} (show : X → Y) (lt : Y → Y → Bool) (xs : List X)
    → IsSortedBy (λ a b. lt (show a) (show b)) xs → IsSortedBy lt (map show xs)
sorted_map show lt [] sorted = λ k d low below. absurd (omega (arith, below))
sorted_map show lt (x ∷ xs) sorted = λ k d low below.
    let after : k + 1 < length (x ∷ xs) = omega (arith, below, length-map (x ∷ xs) show) in
    let here : k < length (x ∷ xs) = omega (arith, after) in
    rw (get_or-map show (x ∷ xs) (k + 1) x d after, get_or-map show (x ∷ xs) k x d here) (sorted k x low after)

-- two comparisons one after another
then_equal : (a b : Ordering) → ordering_then a b ≡ Equal → (a ≡ Equal) × (b ≡ Equal)
then_equal Less b e = absurd (cc e)
then_equal Equal b e = (refl, e)
then_equal Greater b e = absurd (cc e)

nat_equal : (x y : ℕ) → nat_cmp x y ≡ Equal → x ≡ y
nat_equal x y e = subst (λ o. MatchOrdering o (x < y) (x ≡ y) (y < x)) e (ranked x y (nat_cmp x y) refl)

pub compare_exact : (a b : Entry) → compare a b ≡ Equal → a ≡ b
compare_exact a b e =
    let by_bytes = then_equal (nat_cmp b.bytes a.bytes) _ e in
    let by_count = then_equal (nat_cmp b.count a.count) _ by_bytes.1 in
    let by_name = then_equal _ (nat_cmp a.class b.class) by_count.1 in
    let bytes = sym (nat_equal b.bytes a.bytes by_bytes.0) in
    let count = sym (nat_equal b.count a.count by_count.0) in
    let name = exact_bytes a.name b.name by_name.0 in
    let class = nat_equal a.class b.class by_name.1 in
    λ i. record { name = name i; class = class i; count = count i; bytes = bytes i }

-- ---- one arrangement

not_counted : (b : Bool) (n : ℕ) → cond {A = ℕ} b 1 0 + n ≡ 0 → b ≡ false
not_counted true n e = absurd (omega (arith, e))
not_counted false n e = refl

neither_below : (o q : Ordering) → o ≡ ordering_reverse q → is_lt o ≡ false → is_lt q ≡ false → o ≡ Equal
neither_below Less q e a b = absurd (cc a)
neither_below Equal q e a b = refl
neither_below Greater Less e a b = absurd (cc b)
neither_below Greater Equal e a b = absurd (cc e)
neither_below Greater Greater e a b = absurd (cc e)

module _ {X : Type 0} (R : X → X → Ordering) (total : IsTotalOrder R) (exact : (x y : X) → R x y ≡ Equal → x ≡ y) where
  sorted_tail : (x : X) (xs : List X) → IsSorted R (x ∷ xs) → IsSorted R xs
  sorted_tail x xs sorted = λ k d low below. let more : suc k + 1 < length (x ∷ xs) = omega (arith, below) in
      let e : suc k + 1 ≡ suc (k + 1) = omega arith in
      subst (λ m. is_lt (R (get_or (x ∷ xs) m d) (get_or xs k d)) ≡ false) e (sorted (suc k) d (omega arith) more)

  count_none : (p : X → Bool) (xs : List X) → ((j : ℕ) (d : X) → j < length xs → p (get_or xs j d) ≡ false)
      → count_by p xs ≡ 0
  count_none p [] none = refl
  count_none p (x ∷ xs) none = sum_by-cons (λ z. cond (p z) 1 0) x xs
      ∙ (rw (none 0 x (omega arith), count_none p xs (λ j d below. none (suc j) d (omega (arith, below)))) refl)

  count_first : (p : X → Bool) (x : X) (xs : List X) → count_by p (x ∷ xs) ≡ 0 → p x ≡ false
  count_first p x xs none = not_counted (p x) (count_by p xs) (sym (sum_by-cons (λ z. cond (p z) 1 0) x xs) ∙ none)

  -- if two lists have equally many elements for each test and the second is sorted, the head of the first is not below
  -- that of the second
  not_below : (x y : X) (xs ys : List X) → IsSorted R (y ∷ ys)
      → ((p : X → Bool) → count_by p (x ∷ xs) ≡ count_by p (y ∷ ys)) → is_lt (R x y) ≡ false
  not_below x y xs ys sorted alike =
      let p : X → Bool = λ z. is_lt (R z y) in
      let far = sorted_far (λ a b. is_lt (R a b)) (ranks_by total (λ a. a)) (y ∷ ys) sorted 0 in
      count_first p x xs (alike p ∙ count_none p (y ∷ ys) (λ j d below. far j d (omega arith) below))

  pub one_order : (xs ys : List X) → IsSorted R xs → IsSorted R ys → ((p : X → Bool) → count_by p xs ≡ count_by p ys)
      → xs ≡ ys
  one_order [] [] s t alike = refl
  one_order [] (y ∷ ys) s t alike = absurd (omega (arith, alike (λ z. true), sum_by-cons (λ (z : X). 1) y ys))
  one_order (x ∷ xs) [] s t alike = absurd (omega (arith, alike (λ z. true), sum_by-cons (λ (z : X). 1) x xs))
  one_order (x ∷ xs) (y ∷ ys) s t alike =
      let above = not_below x y xs ys t alike in
      let below = not_below y x ys xs s (λ p. sym (alike p)) in
      let first : x ≡ y = exact x y (neither_below (R x y) (R y x) (total.antisymm x y) above below) in
      let alike_behind : (p : X → Bool) → count_by p xs ≡ count_by p ys = λ p.
      let one : X → ℕ = λ z. cond (p z) 1 0 in
      omega (arith, alike p, sum_by-cons one x xs, sum_by-cons one y ys, ap one first) in
      let rest = one_order xs ys (sorted_tail x xs s) (sorted_tail y ys t) alike_behind in
      λ i. first i ∷ rest i

-- two arrangements of one list are equal
pub one_arrangement : (es xs ys : List Entry) → IsPermutation es xs → IsPermutation es ys → IsSorted compare xs
    → IsSorted compare ys → xs ≡ ys
one_arrangement es xs ys p q s t = one_order compare compare_total compare_exact xs ys s t
    (λ f. sum_by-IsPermutation (λ z. cond (f z) 1 0) es xs p ∙ sym (sum_by-IsPermutation (λ z. cond (f z) 1 0) es ys q))
