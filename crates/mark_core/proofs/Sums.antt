-- Sums over lists, and how often a number is in a list.
use Rattle.std.proofs.Common.{◌≡◌, ◌≢◌, ◌⊎◌, ℕ, zero, suc, ◌+◌, ◌<◌, ◌≤◌, List, [], ◌∷◌, ◌++◌, length, get_or, set}
use Rattle.std.proofs.Common.{cond, Contains, ap, sym, refl, inl, inr, ⊎_elim, eq-eqb, ne_eqb, arith}
use mathlib.Core.Option.{some-injective, some-ne-none}
use Rattle.std.proofs.lemmas.Bool.{cases_eq, cases_lt}
use Rattle.mark_core.specs.Lists.{StandsAt, sum_of, one_where, only, times, remove_one, without, IsPart}

module _ {X : Type 0} (f : X → ℕ) where
  pub sum_of-append : (xs ys : List X) → sum_of f (xs ++ ys) ≡ sum_of f xs + sum_of f ys
  sum_of-append [] ys = omega arith
  sum_of-append (x ∷ xs) ys = omega (arith, sum_of-append xs ys)

  pub sum_of-set : (xs : List X) (i : ℕ) (a b : X) → StandsAt xs i a → sum_of f (set xs i b) + f a ≡ sum_of f xs + f b
  sum_of-set [] i a b e = absurd (some-ne-none a (sym e))
  sum_of-set (x ∷ xs) zero a b e = let s : f x ≡ f a = ap f (some-injective x a e) in omega arith
  sum_of-set (x ∷ xs) (suc i) a b e = omega (arith, sum_of-set xs i a b e)

  pub term_le : (xs : List X) (i : ℕ) (a : X) → StandsAt xs i a → f a ≤ sum_of f xs
  term_le [] i a e = absurd (some-ne-none a (sym e))
  term_le (x ∷ xs) zero a e = let s : f x ≡ f a = ap f (some-injective x a e) in omega arith
  term_le (x ∷ xs) (suc i) a e = omega (arith, term_le xs i a e)

  pub terms_le : (xs : List X) (i j : ℕ) (a b : X) → j ≢ i → StandsAt xs i a → StandsAt xs j b → f a + f b ≤ sum_of f xs
  terms_le [] i j a b n d e = absurd (some-ne-none a (sym d))
  terms_le (x ∷ xs) zero zero a b n d e = absurd (n refl)
  terms_le (x ∷ xs) zero (suc j) a b n d e = let s : f x ≡ f a = ap f (some-injective x a d) in
      omega (arith, term_le xs j b e)
  terms_le (x ∷ xs) (suc i) zero a b n d e = let s : f x ≡ f b = ap f (some-injective x b e) in
      omega (arith, term_le xs i a d)
  terms_le (x ∷ xs) (suc i) (suc j) a b n d e = omega (arith, terms_le xs i j a b (λ s. n (ap suc s)) d e)

  -- a sum is 0 if each term is
  pub sum_of-nothing : (xs : List X) → ((i : ℕ) (a : X) → StandsAt xs i a → f a ≡ 0) → sum_of f xs ≡ 0
  sum_of-nothing [] each = refl
  sum_of-nothing (x ∷ xs) each = omega (arith, each 0 x refl, sum_of-nothing xs (λ i a e. each (suc i) a e))

  -- a sum is one of its terms if each other one is 0
  pub sum_of-alone : (xs : List X) (i : ℕ) (a : X) → StandsAt xs i a
      → ((j : ℕ) (b : X) → j ≢ i → StandsAt xs j b → f b ≡ 0) → sum_of f xs ≡ f a
  sum_of-alone [] i a e each = absurd (some-ne-none a (sym e))
  sum_of-alone (x ∷ xs) zero a e each = let s : f x ≡ f a = ap f (some-injective x a e) in
      omega (arith, sum_of-nothing xs (λ j b d. each (suc j) b (λ n. omega arith) d))
  sum_of-alone (x ∷ xs) (suc i) a e each =
      omega (
        arith,
        each 0 x (λ n. omega arith) refl,
        sum_of-alone xs i a e (λ j b n d. each (suc j) b (λ s. n (omega arith)) d),
      )

  -- a sum that is not 0 has a term that is not 0
  pub some_term : (xs : List X) → 0 < sum_of f xs → (i : ℕ) × (a : X) × StandsAt xs i a × (0 < f a)
  some_term [] h = absurd (omega arith)
  some_term (x ∷ xs) h = ⊎_elim
      (λ here. (0, x, refl, here))
      (λ none. let t = some_term xs (omega arith) in (suc t.0, t.1, t.2, t.3))
      (cases_lt 0 (f x))

pub only-same : (x y : ℕ) → y ≡ x → only x y ≡ 1
only-same x y e = ap one_where (eq-eqb y x e)

pub only-other : (x y : ℕ) → y ≢ x → only x y ≡ 0
only-other x y n = ap one_where (ne_eqb y x n)

pub only_one : (x y : ℕ) → 0 < only x y → y ≡ x
only_one x y h = ⊎_elim (λ e. e) (λ n. absurd (omega (arith, only-other x y n))) (cases_eq y x)

pub Contains-times : (xs : List ℕ) (x k : ℕ) → k < length xs → get_or xs k x ≡ x → 0 < times x xs
Contains-times [] x k h e = absurd (omega arith)
Contains-times (y ∷ ys) x zero h e = omega (arith, only-same x y e)
Contains-times (y ∷ ys) x (suc k) h e = omega (arith, Contains-times ys x k (omega arith) e)

pub stands_times : (xs : List ℕ) (x : ℕ) → Contains xs x → 0 < times x xs
stands_times xs x c = Contains-times xs x c.0 c.1 c.2

pub times_stands : (xs : List ℕ) (x : ℕ) → 0 < times x xs → Contains xs x
times_stands [] x h = absurd (omega arith)
times_stands (y ∷ ys) x h = ⊎_elim
    (λ e. (0, omega arith, e))
    (λ n. let c = times_stands ys x (omega (arith, only-other x y n)) in (suc c.0, omega (arith, c.1), c.2))
    (cases_eq y x)

-- an element of two joined lists is in one of them
pub stands_append : (xs ys : List ℕ) (x : ℕ) → Contains (xs ++ ys) x → Contains xs x ⊎ Contains ys x
stands_append xs ys x c = ⊎_elim
    (λ some. inl (times_stands xs x some))
    (λ none. inr (times_stands ys x (omega (arith, stands_times (xs ++ ys) x c, sum_of-append (only x) xs ys))))
    (cases_lt 0 (times x xs))

-- an element of a list with one more at its end is in the list, or is the one at the end
pub stands_push : (xs : List ℕ) (y x : ℕ) → Contains (xs ++ y ∷ []) x → Contains xs x ⊎ (y ≡ x)
stands_push xs y x c =
    ⊎_elim inl (λ t. inr (only_one x y (omega (arith, stands_times (y ∷ []) x t)))) (stands_append xs (y ∷ []) x c)

pub remove_one-same : (x y : ℕ) (ys : List ℕ) → y ≡ x → remove_one x (y ∷ ys) ≡ ys
remove_one-same x y ys e = ap (λ t. cond t ys (y ∷ remove_one x ys)) (eq-eqb y x e)

pub remove_one-other : (x y : ℕ) (ys : List ℕ) → y ≢ x → remove_one x (y ∷ ys) ≡ y ∷ remove_one x ys
remove_one-other x y ys n = ap (λ t. cond t ys (y ∷ remove_one x ys)) (ne_eqb y x n)

pub times-remove_one : (x y : ℕ) (ys : List ℕ) → 0 < times y ys → times x (remove_one y ys) + only x y ≡ times x ys
times-remove_one x y [] h = absurd (omega arith)
times-remove_one x y (z ∷ zs) h = ⊎_elim
    (λ e. omega (arith, ap (only x) e, ap (times x) (remove_one-same y z zs e)))
    (λ n.
    let rest = times-remove_one x y zs (omega (arith, only-other y z n)) in
    omega (arith, ap (times x) (remove_one-other y z zs n), rest))
    (cases_eq z y)

pub times-without : (xs ys : List ℕ) → IsPart xs ys → (x : ℕ) → times x (without xs ys) + times x xs ≡ times x ys
times-without [] ys part x = omega arith
times-without (z ∷ zs) ys part x =
    let here : 0 < times z ys = omega (arith, part z, only-same z z refl) in
    let less : IsPart zs (remove_one z ys) = λ v. omega (arith, part v, times-remove_one v z ys here) in
    omega (arith, times-without zs (remove_one z ys) less x, times-remove_one x z ys here)
