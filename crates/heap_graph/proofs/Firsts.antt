-- The first place in a list that passes a test.
use Rattle.heap_graph.proofs.Words.{All-get_or, Bool, List, None, Option, Some, [], ap, arith, cond, cond_some, false}
use Rattle.heap_graph.proofs.Words.{filter, get_or_from_slice_get, inl, inr, length, length-map, length-prefix_len}
use Rattle.heap_graph.proofs.Words.{length-take, ltb-false, ltb-true, map, nat_lt, none-some, not, passes_at_first}
use Rattle.heap_graph.proofs.Words.{position, position_or_len, refl, same_Some, slice_get, slice_get_within, subst, suc}
use Rattle.heap_graph.proofs.Words.{sym, true, zero, ℕ, ⊎_elim, ◌++◌, ◌+◌, ◌<◌, ◌∙◌, ◌∷◌, ◌≡◌, ◌≤◌, ◌⊎◌}
use Rattle.std.proofs.lemmas.List.Elements.{filter_passes as all_pass}

pub slice_get_of : {X : Type 0} (xs : List X) (n : ℕ) → n < length xs → (x : X) × (slice_get xs n ≡ Some x)
slice_get_of [] n h = absurd (omega (arith, h))
slice_get_of (x ∷ xs) zero h = (x, refl)
slice_get_of (x ∷ xs) (suc n) h = slice_get_of xs n (omega (arith, h))

-- an element of a list with one more element at its end
pub slice_get_push : {X : Type 0} (xs : List X) (y : X) (k : ℕ) (x : X) → slice_get (xs ++ y ∷ []) k ≡ Some x
    → (slice_get xs k ≡ Some x) ⊎ ((k ≡ length xs) × (y ≡ x))
slice_get_push [] y zero x is = inr (refl, same_Some y x is)
slice_get_push [] y (suc k) x is = absurd (none-some x is)
slice_get_push (z ∷ zs) y zero x is = inl is
slice_get_push (z ∷ zs) y (suc k) x is = ⊎_elim inl (λ e. inr (omega (arith, e.0), e.1)) (slice_get_push zs y k x is)

pub position_or_len-map : {X Y : Type 0} (f : X → Y) (p : Y → Bool) (xs : List X)
    → position_or_len p (map f xs) ≡ position_or_len (λ x. p (f x)) xs
position_or_len-map f p [] = refl
position_or_len-map f p (x ∷ xs) = ap (λ (n : ℕ). cond (not (p (f x))) (1 + n) 0) (position_or_len-map f p xs)

abbrev first_of : ℕ → ℕ → Option ℕ
first_of n len = cond (nat_lt n len) (Some n) None

pub position-map : {X Y : Type 0} (f : X → Y) (p : Y → Bool) (xs : List X)
    → position p (map f xs) ≡ position (λ x. p (f x)) xs
position-map f p xs = ap (λ (n : ℕ). first_of n (length (map f xs))) (position_or_len-map f p xs)
    ∙ ap (λ (len : ℕ). first_of (position_or_len (λ x. p (f x)) xs) len) (length-map xs f)

-- the element at place n passes
pub record IsHit {X : Type 0} (p : X → Bool) (xs : List X) (n : ℕ) : Type 0 where
  pub what : X
  pub here : slice_get xs n ≡ Some what
  pub passes : p what ≡ true
  pub below : n < length xs

pub hit : {X : Type 0} (p : X → Bool) (xs : List X) → position_or_len p xs < length xs
    → IsHit p xs (position_or_len p xs)
hit p xs h =
    let it = slice_get_of xs (position_or_len p xs) h in
    let read = get_or_from_slice_get xs (position_or_len p xs) it.0 it.0 it.1 in
    record { what = it.0; here = it.1; passes = ap p (sym read) ∙ passes_at_first p xs it.0 h; below = h }

pub position_hit : {X : Type 0} (p : X → Bool) (xs : List X) (n : ℕ) → position p xs ≡ Some n → IsHit p xs n
position_hit p xs n h =
    let it = cond_some (nat_lt (position_or_len p xs) (length xs)) (position_or_len p xs) n h in
    subst (IsHit p xs) it.1 (hit p xs (ltb-true (position_or_len p xs) (length xs) it.0))

-- a filter keeps only elements that pass
pub filter_passes : {X : Type 0} (p : X → Bool) (xs : List X) (n : ℕ) (x : X) → slice_get (filter p xs) n ≡ Some x
    → p x ≡ true
filter_passes p xs n x h =
    ap p (sym (get_or_from_slice_get (filter p xs) n x x h))
    ∙ All-get_or (λ y. p y ≡ true) (filter p xs) n x (slice_get_within (filter p xs) n x h) (all_pass p xs)

none_if : (n len : ℕ) (b : Bool) → nat_lt n len ≡ b → n ≤ len → cond b (Some n) None ≡ None → len ≡ n
none_if n len true e h k = absurd (let wrong : Some n ≡ None = k in cc)
none_if n len false e h k = omega (arith, h, ltb-false n len e)

pub position_at : {X : Type 0} (p : X → Bool) (xs : List X) (n : ℕ) → Some n ≡ position p xs → n ≡ position_or_len p xs
position_at p xs n h = sym (cond_some (nat_lt (position_or_len p xs) (length xs)) (position_or_len p xs) n (sym h)).1

pub position_past : {X : Type 0} (p : X → Bool) (xs : List X) → None ≡ position p xs → length xs ≡ position_or_len p xs
position_past p xs h =
    let within : position_or_len p xs ≤ length xs =
    omega (arith, length-prefix_len (λ x. not (p x)) xs, length-take (position_or_len p xs) xs) in
    none_if (position_or_len p xs) (length xs) (nat_lt (position_or_len p xs) (length xs)) refl within (sym h)
