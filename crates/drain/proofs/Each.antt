-- What holds of each element of a list holds of the first, of each of the others, and of one more after them.
use Rattle.drain.proofs.Words.{All, List, [], ap, arith, cases_lt, get_or, get_or_append_left, get_or_push, length}
use Rattle.drain.proofs.Words.{length_push, refl, subst, suc, sym, ℕ, ⊎_elim, ◌++◌, ◌+◌, ◌<◌, ◌∙◌, ◌∷◌, ◌≡◌, ◌≤◌}

module _ {X : Type 0} (P : X → Type 0) (len : ℕ) (xs rest : List X) (x : X) (is : xs ≡ x ∷ rest)
    (all : (k : ℕ) (d : X) → k < len → P (get_or xs k d)) where
  pub first_holds : 0 < len → P x
  first_holds some = subst (λ (ys : List X). P (get_or ys 0 x)) is (all 0 x some)

  pub others_hold : (left : ℕ) → left + 1 ≡ len → (k : ℕ) (d : X) → k < left → P (get_or rest k d)
  others_hold left one k d below =
      subst (λ (ys : List X). P (get_or ys (suc k) d)) is (all (suc k) d (omega (arith, below, one)))

pub pushed_holds : {X : Type 0} (P : X → Type 0) (xs ys : List X) (x : X) (n : ℕ) → length xs ≡ n → ys ≡ xs ++ x ∷ []
    → ((k : ℕ) (d : X) → k < n → P (get_or xs k d)) → P x → (k : ℕ) (d : X) → k < n + 1 → P (get_or ys k d)
pushed_holds {X} P xs ys x n long is all last k d below =
    subst (λ (zs : List X). P (get_or zs k d)) (sym is) (⊎_elim
    (λ (low : k < n). subst P (sym (get_or_append_left xs (x ∷ []) d k (omega (arith, low, long)))) (all k d low))
    (λ (high : n ≤ k). subst P (sym (get_or_push xs x d k (omega (arith, high, below, long)))) last)
    (cases_lt k n))

-- what holds of each element holds of the last, and of those that remain without the last
module _ {X : Type 0} (P : X → Type 0) (old left : List X) (x : X) (is : old ≡ left ++ x ∷ []) (all : All P old) where
  long : length old ≡ length left + 1
  long = ap (λ (ys : List X). length ys) is ∙ length_push left x

  pub last_holds : P x
  last_holds =
      let here : get_or old (length left) x ≡ x =
      ap (λ (ys : List X). get_or ys (length left) x) is ∙ get_or_push left x x (length left) refl
      in
      subst P here (all (length left) x (omega (arith, long)))

  pub left_hold : All P left
  left_hold k d below =
      let here : get_or old k d ≡ get_or left k d =
      ap (λ (ys : List X). get_or ys k d) is ∙ get_or_append_left left (x ∷ []) d k below
      in
      subst P here (all k d (omega (arith, below, long)))

-- what holds of each element and of one more holds of each of the longer list
pub more_hold : {X : Type 0} (P : X → Type 0) (xs : List X) (x : X) → All P xs → P x → All P (xs ++ x ∷ [])
more_hold P xs x all last k d below =
    pushed_holds P xs (xs ++ x ∷ []) x (length xs) refl refl (λ j e low. all j e low) last k d
    (omega (arith, below, length_push xs x))
