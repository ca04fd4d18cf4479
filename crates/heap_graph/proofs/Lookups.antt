-- Look-ups of the first element of a list with an identifier, for any key and any part of the element.
use Rattle.heap_graph.proofs.Words.{Bool, List, None, Option, Some, StandInTurn, [], ap, arith, cond-false, cond-true}
use Rattle.heap_graph.proofs.Words.{cond_below, eq-eqb, eqb-false, eqb-true, fails_before_first, get_or, get_or-map}
use Rattle.heap_graph.proofs.Words.{get_or_from_slice_get, if◌then◌else◌, length, length-map, lt_of_not-le, map, ne_eqb}
use Rattle.heap_graph.proofs.Words.{position, position-Some, position_or_len, refl, slice_get, slice_get_within, suc}
use Rattle.heap_graph.proofs.Words.{sym, zero, ℕ, ◌+◌, ◌<◌, ◌==◌, ◌∙◌, ◌∷◌, ◌≡◌, ◌≤◌}

-- the part of the first element whose key is `id`
abbrev pub first_of : {X Y : Type 0} → (X → ℕ) → (X → Y) → List X → ℕ → Option Y
first_of key part [] id = None
first_of key part (x ∷ xs) id = if key x == id then Some (part x) else first_of key part xs id

-- no element has an identifier that has no position
absent : (ids : List ℕ) (id k : ℕ) → None ≡ position (λ x. x == id) ids → k < length ids → get_or ids k 0 ≡ id → ⊥
absent ids id k e within =
    let test : ℕ → Bool = λ x. x == id in
    let place : ℕ = position_or_len test ids in
    let late : ¬ (place + 1 ≤ length ids) = λ (le : place + 1 ≤ length ids).
    let found : Some place ≡ position test ids =
    cond_below place (length ids) (Some place) None (omega (arith, le)) in cc
    in
    eqb-false (get_or ids k 0) id (fails_before_first test ids k 0
    (omega (arith, within, lt_of_not-le {n = place + 1} {m = length ids} late)))

-- the number of an element that is found is below the number of places
pub found_below : {X : Type 0} {IsAt : ℕ → X → Type 0} (key : X → ℕ) (places ids : List ℕ) (xs : List X) (id i : ℕ)
    → StandInTurn IsAt places xs → ids ≡ map key xs → Some i ≡ position (λ x. x == id) ids → i < length places
found_below key places ids xs id i stand are e =
    let it = position-Some (λ x. x == id) ids i 0 (sym e) in
    omega (arith, it.0, stand.count, ap length are, length-map xs key)

module _ {X Y : Type 0} (key : X → ℕ) (part : X → Y) where
  first_at : (xs : List X) (id i : ℕ) (x : X) → slice_get xs i ≡ Some x → key x ≡ id
      → ((k : ℕ) → k < i → get_or (map key xs) k 0 ≡ id → ⊥) → Some (part x) ≡ first_of key part xs id
  first_at [] id i x here same before = absurd (let wrong : None ≡ Some x = here in cc)
  first_at (y ∷ ys) id zero x here same before =
      let it : y ≡ x = cc in
      ap (λ z. Some (part z)) (sym it)
      ∙ sym (cond-true (key y == id) (Some (part y)) (first_of key part ys id) (eq-eqb (key y) id (ap key it ∙ same)))
  first_at (y ∷ ys) id (suc i) x here same before =
      let other = ne_eqb (key y) id (before 0 (omega arith)) in
      first_at ys id i x here same (λ k h. before (suc k) (omega (arith, h)))
      ∙ sym (cond-false (key y == id) (Some (part y)) (first_of key part ys id) other)

  none_first : (xs : List X) (id : ℕ) → ((k : ℕ) → k < length xs → get_or (map key xs) k 0 ≡ id → ⊥)
      → None ≡ first_of key part xs id
  none_first [] id none = refl
  none_first (y ∷ ys) id none =
      let other = ne_eqb (key y) id (none 0 (omega arith)) in
      none_first ys id (λ k h. none (suc k) (omega (arith, h)))
      ∙ sym (cond-false (key y == id) (Some (part y)) (first_of key part ys id) other)

  pub found : (ids : List ℕ) (xs : List X) (id i : ℕ) (x : X) → slice_get xs i ≡ Some x → ids ≡ map key xs
      → Some i ≡ position (λ x. x == id) ids → Some (part x) ≡ first_of key part xs id
  found ids xs id i x here are e =
      let at = position-Some (λ x. x == id) ids i 0 (sym e) in
      let bears : get_or ids i 0 ≡ key x =
      ap (λ ns. get_or ns i 0) are ∙ get_or-map key xs i x 0 (slice_get_within xs i x here)
      ∙ ap key (get_or_from_slice_get xs i x x here) in
      first_at xs id i x here (sym bears ∙ eqb-true (get_or ids i 0) id at.1)
      (λ k h same. eqb-false (get_or ids k 0) id (at.2 k h) (ap (λ ns. get_or ns k 0) are ∙ same))

  pub missing : (ids : List ℕ) (xs : List X) (id : ℕ) → ids ≡ map key xs → None ≡ position (λ x. x == id) ids
      → None ≡ first_of key part xs id
  missing ids xs id are e =
      none_first xs id (λ k h same. absent ids id k e (omega (arith, h, ap length are, length-map xs key))
      (ap (λ ns. get_or ns k 0) are ∙ same))
