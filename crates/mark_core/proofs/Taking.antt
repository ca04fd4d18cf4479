-- Removing numbers from a list, one after another.
use Rattle.std.proofs.Common.{◌≡◌, ◌≢◌, ℕ, zero, suc, ◌+◌, ◌<◌, ◌==◌, false, List, [], ◌∷◌, length, get_or, drop}
use Rattle.std.proofs.Common.{Contains, Some, None, IsSome, IsTrue, ap, sym, subst, refl, ◌∙◌, add-one, drop-cons}
use Rattle.std.proofs.Common.{eqb-true, eq-eqb, arith}
use Rattle.std.specs.List.{remove, position}
use Rattle.std.proofs.lemmas.List.Quantifiers.{position-Some}
use Rattle.mark_core.specs.Lists.{remove_one, without, IsPart}
use Rattle.mark_core.proofs.Sums.{only-same, stands_times, times_stands, remove_one-same, remove_one-other}
use Rattle.mark_core.proofs.Sums.{times-remove_one}

pub none_is_not_some : IsSome {T = ℕ} None → ⊥
none_is_not_some h = cc

pub false_is_not_true : IsTrue false → ⊥
false_is_not_true h = cc

-- removing the element at i removes the first x, if the first x is at i
pub remove-place : (xs : List ℕ) (x i : ℕ) → i < length xs → get_or xs i x ≡ x → ((k : ℕ) → k < i → get_or xs k x ≢ x)
    → remove xs i ≡ remove_one x xs
remove-place [] x i h e n = absurd (omega arith)
remove-place (y ∷ ys) x zero h e n = sym (remove_one-same x y ys e)
remove-place (y ∷ ys) x (suc i) h e n =
    let other : y ≢ x = n 0 (omega arith) in
    ap (λ zs. y ∷ zs) (remove-place ys x i (omega arith) e (λ k lt. n (suc k) (omega arith)))
    ∙ sym (remove_one-other x y ys other)

pub remove-position : (xs : List ℕ) (x i : ℕ) → position (λ y. y == x) xs ≡ Some i → remove xs i ≡ remove_one x xs
remove-position xs x i e =
    let found = position-Some (λ y. y == x) xs i x e in
    remove-place xs x i found.0 (eqb-true (get_or xs i x) x found.1) (λ k lt same. let no = found.2 k lt in
    let yes = eq-eqb (get_or xs k x) x same in cc)

pub remove_one-none : (xs : List ℕ) (x : ℕ) → ¬ Contains xs x → remove_one x xs ≡ xs
remove_one-none [] x n = refl
remove_one-none (y ∷ ys) x n =
    let other : y ≢ x = λ e. n (0, omega arith, e) in
    remove_one-other x y ys other ∙ ap (λ zs. y ∷ zs) (remove_one-none ys x (λ c. n (suc c.0, omega (arith, c.1), c.2)))

-- removing `rest` from `left` has the same result as removing `all` from `old`
pub record Takes (all old rest left : List ℕ) : Type 0 where
  pub same : without rest left ≡ without all old
  pub onward : IsPart all old → IsPart rest left
  pub back : IsPart rest left → IsPart all old

module _ (all old left : List ℕ) (i : ℕ) (inside : i < length all) (t : Takes all old (drop i all) left) where
  next : drop i all ≡ get_or all i 0 ∷ drop (i + 1) all
  next = rw (add-one, drop-cons all i 0)

  pub takes_more : Contains left (get_or all i 0) → Takes all old (drop (i + 1) all) (remove_one (get_or all i 0) left)
  takes_more here =
      let x = get_or all i 0 in
      let s : Takes all old (x ∷ drop (i + 1) all) left = subst (λ rest. Takes all old rest left) next t in
      let has = stands_times left x here in
      record {
        same = s.same;
        onward = λ p v. omega (arith, s.onward p v, times-remove_one v x left has);
        back = λ p. s.back (λ v. omega (arith, p v, times-remove_one v x left has));
      }

  pub takes_stop : ¬ Contains left (get_or all i 0) → ¬ IsPart all old
  takes_stop away p =
      let x = get_or all i 0 in
      let s : Takes all old (x ∷ drop (i + 1) all) left = subst (λ rest. Takes all old rest left) next t in
      away (times_stands left x (omega (arith, s.onward p x, only-same x x refl)))
