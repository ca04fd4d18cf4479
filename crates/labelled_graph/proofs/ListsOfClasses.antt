-- Lists that are appended one after the other.
use Rattle.std.proofs.Common.{List, [], arith, get_or, length, map, subst, sym, ℕ, ⊎_elim, ◌++◌, ◌+◌, ◌<◌, ◌∙◌, ◌∷◌}
use Rattle.std.proofs.Common.{◌≡◌}
use Rattle.std.proofs.lemmas.Bool.{cases_eq}
use Rattle.std.proofs.lemmas.List.{get_or_append_left, get_or_at, length-map, map-append}

pub pushed : {X Y : Type 0} (f : X → List Y) (P : ℕ → List Y → Type 0) (xs : List X) (x : X) (n : ℕ) → length xs ≡ n
    → ((k : ℕ) → k < n → P k (get_or (map f xs) k [])) → P n (f x)
    → (k : ℕ) → k < n + 1 → P k (get_or (map f (xs ++ x ∷ [])) k [])
pushed {X} {Y} f P xs x n many before here k l =
    let parts : map f (xs ++ x ∷ []) ≡ map f xs ++ f x ∷ [] = map-append f xs (x ∷ []) in
    let long : length (map f xs) ≡ n = length-map xs f ∙ many in
    subst (λ (ys : List (List Y)). P k (get_or ys k [])) (sym parts)
    (⊎_elim
    (λ e. subst (λ (ys : List Y). P k ys) (sym (get_or_at (map f xs) (f x) [] [] k (long ∙ sym e)))
    (subst (λ (j : ℕ). P j (f x)) (sym e) here))
    (λ ne. subst (λ (ys : List Y). P k ys) (sym (get_or_append_left (map f xs) (f x ∷ []) [] k (omega
    (arith, l, ne, long))))
    (before k (omega (arith, l, ne))))
    (cases_eq k n))
