-- Lists that have each number equally often have equal sums.
use Rattle.std.proofs.Common.{◌≡◌, ℕ, ◌+◌, ◌<◌, List, [], ◌∷◌, sum_by, ap, sym, refl, arith}
use Rattle.std.proofs.lemmas.List.Sums.{sum_by-cons}
use native.Mathlib.Decide.{ℕ_discrete}
use Rattle.mark_core.specs.Lists.{remove_one, times}
use Rattle.mark_core.proofs.Sums.{only-same, only-other, remove_one-same, remove_one-other, times-remove_one}

sum-remove_one :
    (f : ℕ → ℕ) (x : ℕ) (ys : List ℕ) → 0 < times x ys → sum_by f ys ≡ f x + sum_by f (remove_one x ys)
sum-remove_one f x [] h = absurd (omega (arith, h))
sum-remove_one f x (y ∷ ys) h = go (ℕ_discrete y x) (sum-remove_one f x ys)
  where
    go :
        Dec (y ≡ x) → (0 < times x ys → sum_by f ys ≡ f x + sum_by f (remove_one x ys))
        → sum_by f (y ∷ ys) ≡ f x + sum_by f (remove_one x (y ∷ ys))
    go (yes e) rest = omega (arith, sum_by-cons f y ys, ap f e, ap (sum_by f) (remove_one-same x y ys e))
    go (no n) rest =
        let later = rest (omega (arith, h, only-other x y n)) in
        let out = ap (sum_by f) (remove_one-other x y ys n) in
        omega (arith, sum_by-cons f y ys, later, out, sum_by-cons f y (remove_one x ys))

none_there : (ys : List ℕ) → ((o : ℕ) → 0 ≡ times o ys) → ys ≡ []
none_there [] none = refl
none_there (y ∷ ys) none = absurd (omega (arith, none y, only-same y y refl))

pub same_sums :
    (xs ys : List ℕ) → ((o : ℕ) → times o xs ≡ times o ys) → (f : ℕ → ℕ) → sum_by f xs ≡ sum_by f ys
same_sums [] ys same f = ap (sum_by f) (sym (none_there ys same))
same_sums (x ∷ xs) ys same f =
    let there : 0 < times x ys = omega (arith, same x, only-same x x refl) in
    let rest : (o : ℕ) → times o xs ≡ times o (remove_one x ys) =
    λ o. omega (arith, same o, times-remove_one o x ys there)
    in
    omega (arith, sum_by-cons f x xs, sum-remove_one f x ys there, same_sums xs (remove_one x ys) rest f)
