-- Two rows of a graph are the same if their numbers are, and a row that a graph does not have has no object.
use Rattle.drain.proofs.Words.{Bool, IsRowIn, IsWhole, List, ObjectGraph, RowKey, [], ap, arith, cases_lt, class_count}
use Rattle.drain.proofs.Words.{eq-eqb, eqb-true, false, filter, inl, inr, ne_eqb, numbered_row, of_row, refl, row_at}
use Rattle.drain.proofs.Words.{row_number, row_of_its_number, row_there, same_row, subst, sym, true, ℕ, ⊎_elim}
use Rattle.drain.proofs.Words.{◌==◌, ◌∙◌, ◌∷◌, ◌≡◌, ◌⊎◌}
use native.Mathlib.Decide.{ℕ_discrete}
use Rattle.heap_graph.specs.declared.row.RowKey.TheVariants as keys

pub same_itself : (row : RowKey) → same_row row row ≡ true
same_itself (keys.Class n) = eq-eqb n n refl
same_itself (keys.Primitive t) = eq-eqb t t refl
same_itself keys.ClassObject = refl

same_is_one : (row other : RowKey) → same_row row other ≡ true → row ≡ other
same_is_one (keys.Class a) (keys.Class b) e = ap keys.Class (eqb-true a b e)
same_is_one (keys.Primitive a) (keys.Primitive b) e = ap keys.Primitive (eqb-true a b e)
same_is_one keys.ClassObject keys.ClassObject e = refl
same_is_one (keys.Class a) (keys.Primitive b) e = absurd (let wrong : false ≡ true = e in cc)
same_is_one (keys.Class a) keys.ClassObject e = absurd (let wrong : false ≡ true = e in cc)
same_is_one (keys.Primitive a) (keys.Class b) e = absurd (let wrong : false ≡ true = e in cc)
same_is_one (keys.Primitive a) keys.ClassObject e = absurd (let wrong : false ≡ true = e in cc)
same_is_one keys.ClassObject (keys.Class b) e = absurd (let wrong : false ≡ true = e in cc)
same_is_one keys.ClassObject (keys.Primitive b) e = absurd (let wrong : false ≡ true = e in cc)

pub differ : (row other : RowKey) → (row ≡ other → ⊥) → same_row row other ≡ false
differ row other n = go (same_row row other) refl
  where
    go : (b : Bool) → same_row row other ≡ b → same_row row other ≡ false
    go true e = absurd (n (same_is_one row other e))
    go false e = e

-- two rows of the graph are the same if their numbers are
pub same_number : (g : ObjectGraph) (row other : RowKey) → IsRowIn g row → IsRowIn g other
    → same_row row other ≡ (row_number other == row_number row)
same_number g row other h k = go (ℕ_discrete (row_number other) (row_number row))
  where
    go : Dec (row_number other ≡ row_number row) → same_row row other ≡ (row_number other == row_number row)
    go (yes e) =
        let one : other ≡ row =
        sym (row_of_its_number g other k) ∙ ap numbered_row e ∙ row_of_its_number g row h in
        ap (same_row row) one ∙ same_itself row ∙ sym (eq-eqb (row_number other) (row_number row) e)
    go (no n) =
        differ row other (λ e. n (ap row_number (sym e))) ∙ sym (ne_eqb (row_number other) (row_number row) n)

-- no object has a row that the graph does not have
none_pass : (xs : List ℕ) → filter (λ o. false) xs ≡ []
none_pass [] = refl
none_pass (x ∷ xs) = none_pass xs

pub none_of_row :
    (g : ObjectGraph) → IsWhole g → (row : RowKey) → (IsRowIn g row → ⊥) → (xs : List ℕ) → of_row g row xs ≡ []
none_of_row g whole row not_in xs = (λ k. filter (λ o. other o k) xs) ∙ none_pass xs
  where
    other : (o : ℕ) → same_row row (row_at g o) ≡ false
    other o = differ row (row_at g o) (λ e. not_in (subst (IsRowIn g) (sym e) (row_there g whole o)))

-- a row is in the graph, or not
pub in_or_not : (g : ObjectGraph) (row : RowKey) → IsRowIn g row ⊎ (IsRowIn g row → ⊥)
in_or_not g (keys.Class n) =
    ⊎_elim (λ h. inl h) (λ past. inr (λ h. omega (arith, h, past))) (cases_lt n (class_count g))
in_or_not g (keys.Primitive t) = ⊎_elim
    (λ low. inr (λ h. omega (arith, h.0, low)))
    (λ from. ⊎_elim (λ h. inl (from, omega (arith, h))) (λ past. inr (λ h. omega (arith, h.1, past))) (cases_lt t 12))
    (cases_lt t 4)
in_or_not g keys.ClassObject = inl tt
