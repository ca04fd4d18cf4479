-- Elements after a swap.
use Rattle.id_index.proofs.Words.{List, ap, cases_eq, get_or, inl, inr, length, refl, swap, swapped_from_swap, ℕ, ◌<◌}
use Rattle.id_index.proofs.Words.{◌∙◌, ◌≡◌, ◌⊎◌}

-- the index that an element had before a swap
pub came_from : {X : Type 0} (xs : List X) (d : X) (a b i : ℕ) → a < length xs → b < length xs → i < length xs
    → (k : ℕ) × (k < length xs) × (get_or (swap xs a b) i d ≡ get_or xs k d)
    × (((i ≡ a) × (k ≡ b)) ⊎ (((i ≡ b) × (k ≡ a)) ⊎ ((i ≡ a → ⊥) × ((i ≡ b → ⊥) × (k ≡ i)))))
came_from xs d a b i in_a in_b in_i =
    let moved = swapped_from_swap xs (swap xs a b) a b d in_a in_b refl in
    elim (cases_eq i a) [
      | inl first ↦ (b, in_b, ap (λ (m : ℕ). get_or (swap xs a b) m d) first ∙ moved.0, inl (first, refl))
      | inr not_first ↦ elim (cases_eq i b) [
        | inl second ↦ (
          a,
          in_a,
          ap (λ (m : ℕ). get_or (swap xs a b) m d) second ∙ moved.1,
          inr (inl (second, refl)),
        )
        | inr not_second ↦ (
          i,
          in_i,
          moved.2 i not_first not_second,
          inr (inr (not_first, (not_second, refl))),
        )
      ]
    ]
