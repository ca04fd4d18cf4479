-- Rows by their numbers, and the objects of the rows below a number.
use Rattle.std.proofs.Common.{Bool, ◌≡◌, ◌≢◌, ℕ, ◌+◌, ◌<◌, ◌≤◌, ◌^◌, ◌⊎◌, List, [], ◌∷◌, true, false, cond}
use Rattle.std.proofs.Common.{filter, length, nat_lt, slice_index_or, sum_by, refl, sym, ap, ◌∙◌, ⊎_elim, arith}
use Rattle.std.proofs.lemmas.Bool.{cases_order, le-ltb, lt-ltb}
use Rattle.std.proofs.lemmas.List.FromFn.{length-range_with_len}
use Rattle.std.proofs.lemmas.List.Sums.{count_by-le-length, length-filter, sum_by-cons, sum_by-le}
use Rattle.std.specs.List.{range_with_len}
use Rattle.hprof_grammar.specs.Dump.{limit}
use Rattle.mark_core.proofs.Chosen.{ones}
use Rattle.heap_graph.specs.ObjectGraph.{ObjectGraph, bytes_at, object_count, row_at}
use Rattle.heap_graph.specs.Whole.{IsRowIn, IsWhole}
use Rattle.heap_graph.specs.declared.row.RowKey.{RowKey}
use Rattle.drain.specs.Marks.{IsMarkingOf, MarkedObjects}
use Rattle.drain.specs.Sums.{sum_of_row}
use Rattle.histogram.specs.Histogram.{marked_objects, of_row, same_row, total}
use Rattle.heap_graph.specs.RowNumbers.{numbered_row, row_count, row_number}
use Rattle.histogram.specs.working.RowNumbers.{objects_below}
use Rattle.drain.proofs.Passing.{passing_sum}
use Rattle.heap_graph.proofs.RowNumberLaws.{number_of_its_row, number_within, row_of_its_number, row_there}
use Rattle.drain.proofs.RowTests.{differ, same_itself}

-- a row is the one with its number, and with no other
row_here : (g : ObjectGraph) (row : RowKey) → IsRowIn g row → same_row (numbered_row (row_number row)) row ≡ true
row_here g row here = ap (λ r. same_row r row) (row_of_its_number g row here) ∙ same_itself row

row_elsewhere : (g : ObjectGraph) (row : RowKey) (n : ℕ) → n < row_count g → n ≢ row_number row
    → same_row (numbered_row n) row ≡ false
row_elsewhere g row n below other =
    differ (numbered_row n) row (λ e. other (sym (number_of_its_row g n below) ∙ ap row_number e))

-- r passes if p or q does, and no object passes both
two_parts :
    (f : ℕ → ℕ) (r p q : ℕ → Bool) (xs : List ℕ)
    → ((o : ℕ) → cond (r o) (f o) 0 ≡ cond (p o) (f o) 0 + cond (q o) (f o) 0)
    → sum_by f (filter r xs) ≡ sum_by f (filter p xs) + sum_by f (filter q xs)
two_parts f r p q xs each =
    omega (arith, passing_sum f r xs, passing_sum f p xs, passing_sum f q xs, weights xs)
  where
    weights :
        (ys : List ℕ) → sum_by (λ o. cond (r o) (f o) 0) ys
        ≡ sum_by (λ o. cond (p o) (f o) 0) ys + sum_by (λ o. cond (q o) (f o) 0) ys
    weights [] = refl
    weights (y ∷ ys) =
        omega (
          arith,
          sum_by-cons (λ o. cond (r o) (f o) 0) y ys,
          sum_by-cons (λ o. cond (p o) (f o) 0) y ys,
          sum_by-cons (λ o. cond (q o) (f o) 0) y ys,
          each y,
          weights ys,
        )

-- `count` marked objects have the rows with numbers below n, and their bytes add up to `bytes`
pub record AreSums (g : ObjectGraph) (marks : List Bool) (n count bytes : ℕ) : Type 0 where
  pub count_is : count ≡ length (objects_below g n (marked_objects g marks))
  pub bytes_is : bytes ≡ sum_by (bytes_at g) (objects_below g n (marked_objects g marks))

module _ (g : ObjectGraph) (whole : IsWhole g) where
  abbrev number_at : ℕ → ℕ
  number_at o = row_number (row_at g o)

  -- the rows below n + 1 are those below n and row n
  next_row :
      (f : ℕ → ℕ) (n : ℕ) → n < row_count g → (o : ℕ)
      → cond (nat_lt (number_at o) (n + 1)) (f o) 0
      ≡ cond (nat_lt (number_at o) n) (f o) 0
      + cond (same_row (numbered_row n) (row_at g o)) (f o) 0
  next_row f n below o = go (cases_order (number_at o) n)
    where
      here : IsRowIn g (row_at g o)
      here = row_there g whole o

      made : (a b c : Bool) → nat_lt (number_at o) (n + 1) ≡ a → nat_lt (number_at o) n ≡ b
          → same_row (numbered_row n) (row_at g o) ≡ c
          → cond a (f o) 0 ≡ cond b (f o) 0 + cond c (f o) 0
          → cond (nat_lt (number_at o) (n + 1)) (f o) 0
          ≡ cond (nat_lt (number_at o) n) (f o) 0
          + cond (same_row (numbered_row n) (row_at g o)) (f o) 0
      made a b c is_a is_b is_c e =
          omega (
            arith,
            ap (λ x. cond x (f o) 0) is_a,
            ap (λ x. cond x (f o) 0) is_b,
            ap (λ x. cond x (f o) 0) is_c,
            e,
          )

      go : (number_at o ≡ n) ⊎ ((number_at o < n) ⊎ (n < number_at o))
          → cond (nat_lt (number_at o) (n + 1)) (f o) 0
          ≡ cond (nat_lt (number_at o) n) (f o) 0
          + cond (same_row (numbered_row n) (row_at g o)) (f o) 0
      go h = ⊎_elim
          (λ same. made true false true
          (lt-ltb (number_at o) (n + 1) (omega (arith, same))) (le-ltb (number_at o) n (omega (arith, same)))
          (ap (λ k. same_row (numbered_row k) (row_at g o)) (sym same) ∙ row_here g (row_at g o) here)
          (omega arith))
          (⊎_elim
          (λ low. made true true false
          (lt-ltb (number_at o) (n + 1) (omega (arith, low))) (lt-ltb (number_at o) n low)
          (row_elsewhere g (row_at g o) n below (λ e. omega (arith, e, low))) (omega arith))
          (λ high. made false false false
          (le-ltb (number_at o) (n + 1) (omega (arith, high))) (le-ltb (number_at o) n (omega (arith, high)))
          (row_elsewhere g (row_at g o) n below (λ e. omega (arith, e, high))) (omega arith)))
          h

  pub below_next :
      (f : ℕ → ℕ) (n : ℕ) (xs : List ℕ) → n < row_count g
      → sum_by f (objects_below g (n + 1) xs)
      ≡ sum_by f (objects_below g n xs) + sum_by f (of_row g (numbered_row n) xs)
  below_next f n xs below =
      two_parts f (λ o. nat_lt (number_at o) (n + 1)) (λ o. nat_lt (number_at o) n)
      (λ o. same_row (numbered_row n) (row_at g o)) xs (next_row f n below)

  pub below_none : (f : ℕ → ℕ) (xs : List ℕ) → sum_by f (objects_below g 0 xs) ≡ 0
  below_none f [] = refl
  below_none f (x ∷ xs) =
      (λ k. sum_by f (cond (le-ltb (number_at x) 0 (omega arith) k) (x ∷ objects_below g 0 xs) (objects_below g 0 xs)))
      ∙ below_none f xs

  pub below_all : (n : ℕ) (xs : List ℕ) → n ≡ row_count g → objects_below g n xs ≡ xs
  below_all n [] all = refl
  below_all n (x ∷ xs) all =
      let within = number_within g (row_at g x) (row_there g whole x) in
      (λ k. cond (lt-ltb (number_at x) n (omega (arith, within, all)) k) (x ∷ objects_below g n xs)
      (objects_below g n xs))
      ∙ ap (λ ys. x ∷ ys) (below_all n xs all)

  pub count_next :
      (n : ℕ) (xs : List ℕ) → n < row_count g
      → length (objects_below g (n + 1) xs)
      ≡ length (objects_below g n xs) + length (of_row g (numbered_row n) xs)
  count_next n xs below =
      omega (
        arith,
        below_next (λ o. 1) n xs below,
        ones (objects_below g (n + 1) xs),
        ones (objects_below g n xs),
        ones (of_row g (numbered_row n) xs),
      )

  pub count_none : (xs : List ℕ) → length (objects_below g 0 xs) ≡ 0
  count_none xs = sym (ones (objects_below g 0 xs)) ∙ below_none (λ o. 1) xs

  -- there are few marked objects in some of the rows, and they have few bytes
  pub small_part :
      (n : ℕ) (marks : List Bool)
      → (length (objects_below g n (marked_objects g marks)) ≤ 2 ^ 24)
      × (sum_by (bytes_at g) (objects_below g n (marked_objects g marks)) ≤ 2 ^ 54)
  small_part n marks =
      let objects = range_with_len 0 (object_count g) in
      let marked = marked_objects g marks in
      let below = objects_below g n marked in
      let passing = length-filter (λ o. nat_lt (number_at o) n) marked in
      let no_more = count_by-le-length (λ o. nat_lt (number_at o) n) marked in
      let chosen = length-filter (λ o. slice_index_or marks o false) objects in
      let few = count_by-le-length (λ o. slice_index_or marks o false) objects in
      let all = length-range_with_len 0 (object_count g) in
      let count : length below ≤ 2 ^ 24 = omega (arith, passing, no_more, chosen, few, all, whole.few_objects) in
      (count, omega (arith, count, sum_by-le (bytes_at g) limit below (λ k d h. whole.few_bytes _)))

  pub none_summed : (marks : List Bool) → AreSums g marks 0 0 0
  none_summed marks = record {
    count_is = sym (count_none (marked_objects g marks));
    bytes_is = sym (below_none (bytes_at g) (marked_objects g marks));
  }

  -- one more row, by the sums that the marks have for it
  module _ (m : MarkedObjects) (marking : IsMarkingOf g m) {n count bytes : ℕ} (row : RowKey) (told : ℕ × ℕ)
      (so : AreSums g m.marks n count bytes) (is : row ≡ numbered_row n) (tells : told ≡ sum_of_row m.sums row)
      (below : n < row_count g) where
    pub row_summed : AreSums g m.marks (n + 1) (count + told.0) (bytes + told.1)
    row_summed =
        let marked = marked_objects g m.marks in
        let both = tells ∙ marking.tallies row ∙ ap (λ (r : RowKey). total g (of_row g r marked)) is in
        record {
          count_is = omega (arith, so.count_is, count_next n marked below, ap (λ (p : ℕ × ℕ). p.0) both);
          bytes_is = omega (arith, so.bytes_is, below_next (bytes_at g) n marked below, ap (λ (p : ℕ × ℕ). p.1) both);
        }

    pub few_summed : (count + told.0 ≤ 2 ^ 24) × (bytes + told.1 ≤ 2 ^ 54)
    few_summed =
        let it = row_summed in
        let small = small_part (n + 1) m.marks in
        (omega (arith, it.count_is, small.0), omega (arith, it.bytes_is, small.1))
