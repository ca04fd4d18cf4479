-- Sums over the objects that pass a test, as sums of weights.
use Rattle.drain.proofs.Words.{Bool, List, [], arith, cond, false, filter, length, not, ones, refl, sum_by, sum_by-cons}
use Rattle.drain.proofs.Words.{sym, true, ℕ, ◌+◌, ◌∙◌, ◌∷◌, ◌≡◌}

pass-cons :
    (f : ℕ → ℕ) (p : ℕ → Bool) (x : ℕ) (xs : List ℕ)
    → sum_by f (filter p (x ∷ xs)) ≡ cond (p x) (f x) 0 + sum_by f (filter p xs)
pass-cons f p x xs = go (p x)
  where
    go : (b : Bool) → sum_by f (cond b (x ∷ filter p xs) (filter p xs)) ≡ cond b (f x) 0 + sum_by f (filter p xs)
    go true = sum_by-cons f x (filter p xs)
    go false = omega arith

-- those that pass and the others
pub both_parts :
    (f : ℕ → ℕ) (p : ℕ → Bool) (xs : List ℕ)
    → sum_by f (filter p xs) + sum_by f (filter (λ o. not (p o)) xs) ≡ sum_by f xs
both_parts f p [] = refl
both_parts f p (x ∷ xs) =
    let passes = pass-cons f p x xs in
    let others = pass-cons f (λ o. not (p o)) x xs in
    omega (arith, passes, others, sum_by-cons f x xs, both_parts f p xs, either (p x))
  where
    either : (b : Bool) → cond b (f x) 0 + cond (not b) (f x) 0 ≡ f x
    either true = omega arith
    either false = omega arith

pub passing_sum :
    (f : ℕ → ℕ) (p : ℕ → Bool) (xs : List ℕ) → sum_by f (filter p xs) ≡ sum_by (λ o. cond (p o) (f o) 0) xs
passing_sum f p [] = refl
passing_sum f p (x ∷ xs) =
    omega (arith, pass-cons f p x xs, sum_by-cons (λ o. cond (p o) (f o) 0) x xs, passing_sum f p xs)

pub passing_count :
    (p : ℕ → Bool) (xs : List ℕ) → length (filter p xs) ≡ sum_by (λ o. cond (p o) 1 0) xs
passing_count p xs = sym (ones (filter p xs)) ∙ passing_sum (λ o. 1) p xs
