-- The rows of a graph and the numbers below their count correspond, one to one.
use Rattle.std.proofs.Common.{ap, arith, inl, inr, ne_eqb, refl, subst, sym, ℕ, ⊎_elim, ◌+◌, ◌-◌, ◌<◌, ◌∙◌, ◌≡◌, ◌⊎◌}
use Rattle.std.proofs.lemmas.Bool.{cases_lt, le-ltb, lt-ltb}
use Rattle.std.proofs.lemmas.List.{get_or_past}
use Rattle.heap_graph.specs.ObjectGraph.{ObjectGraph, object_count, row_at}
use Rattle.heap_graph.specs.RowNumbers.{numbered_row, row_count, row_number}
use Rattle.heap_graph.specs.Whole.{IsRowIn, IsWhole}
use Rattle.heap_graph.specs.declared.row.RowKey.{RowKey}
use Rattle.heap_graph.specs.declared.row.RowKey.TheVariants as keys

pub at_type : (n : ℕ) → n < 8 → numbered_row n ≡ keys.Primitive (4 + n)
at_type n below = rw (lt-ltb n 8 below) refl

pub at_class : (n : ℕ) → numbered_row (9 + n) ≡ keys.Class n
at_class n =
    let same : 9 + n - 9 ≡ n = omega arith in
    rw (le-ltb (9 + n) 8 (omega arith), ne_eqb (9 + n) 8 (λ e. omega (arith, e)), same) refl

module _ (g : ObjectGraph) where
  pub number_within : (row : RowKey) → IsRowIn g row → row_number row < row_count g
  number_within (keys.Primitive t) h = omega (arith, h.1)
  number_within keys.ClassObject h = omega arith
  number_within (keys.Class n) h = omega (arith, h)

  pub row_of_its_number : (row : RowKey) → IsRowIn g row → numbered_row (row_number row) ≡ row
  row_of_its_number (keys.Primitive t) h =
      let same : 4 + (t - 4) ≡ t = omega (arith, h.0) in
      rw (at_type (t - 4) (omega (arith, h.1)), same) refl
  row_of_its_number keys.ClassObject h = refl
  row_of_its_number (keys.Class n) h = at_class n

  -- there are three kinds of numbers
  kinds : (n : ℕ) → (n < 8) ⊎ ((n ≡ 8) ⊎ (n ≡ 9 + (n - 9)))
  kinds n = elim (cases_lt n 8) [
    | inl h ↦ inl h
    | inr h ↦ elim (cases_lt n 9) [ inl k ↦ inr (inl (omega (arith, h, k))) | inr k ↦ inr (inr (omega (arith, k))) ]
  ]

  pub number_of_its_row : (n : ℕ) → n < row_count g → row_number (numbered_row n) ≡ n
  number_of_its_row n below = elim (kinds n) [
    | inl h ↦ rw (at_type n h) (omega arith)
    | inr h ↦ elim h [
      | inl k ↦ rw k refl
      | inr k ↦ ap (λ m. row_number (numbered_row m)) k ∙ ap row_number (at_class (n - 9)) ∙ sym k
    ]
  ]

  pub row_within : (n : ℕ) → n < row_count g → IsRowIn g (numbered_row n)
  row_within n below = elim (kinds n) [
    | inl h ↦ subst (IsRowIn g) (sym (at_type n h)) (omega arith, omega (arith, h))
    | inr h ↦ elim h [
      | inl k ↦ rw k tt
      | inr k ↦ subst (λ m. IsRowIn g (numbered_row m)) (sym k)
          (subst (IsRowIn g) (sym (at_class (n - 9))) (omega (arith, k, below)))
    ]
  ]

  -- each object has a row of the graph, and a number past the objects has that of the class objects
  pub row_there : IsWhole g → (o : ℕ) → IsRowIn g (row_at g o)
  row_there whole o = ⊎_elim
      (λ below. whole.rows_within o below)
      (λ past.
      let none : row_at g o ≡ keys.ClassObject =
      get_or_past g.rows o keys.ClassObject (omega (arith, past, whole.row_each))
      in
      subst (IsRowIn g) (sym none) tt)
      (cases_lt o (object_count g))
