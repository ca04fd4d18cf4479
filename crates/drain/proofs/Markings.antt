-- At the close the leader's finished list has exactly the marked objects, each once: so its tally is their tally.
use Rattle.drain.proofs.Words.{AreThose, Book, Bool, Contains, IsMarkingOf, IsOnce, IsRowIn, IsTallyOf, IsWhole, List}
use Rattle.drain.proofs.Words.{Marking, MarksTell, ObjectGraph, RowKey, Sum, ap, arith, bytes_at, cases_lt, chosen_sums}
use Rattle.drain.proofs.Words.{class_count, cond, false, filter, get_or_past, is_set, le-leb, leb-true, length}
use Rattle.drain.proofs.Words.{length-map, map, marked_objects, measure_of, nat_le, no_object, number_within}
use Rattle.drain.proofs.Words.{object_count, of_row, refl, row_at, row_number, row_there, slice_index, slice_index_or}
use Rattle.drain.proofs.Words.{sum_at, sum_by, sum_in, sum_of_row, sym, total, true, unresolved_at, ℕ, ⊎_elim, ◌&&◌}
use Rattle.drain.proofs.Words.{◌+◌, ◌-◌, ◌<◌, ◌==◌, ◌∙◌, ◌≡◌, ◌≤◌}
use Rattle.heap_graph.specs.declared.row.RowKey.TheVariants as keys
use Rattle.drain.proofs.Closes.{marked_where_set}
use Rattle.drain.proofs.Passing.{passing_count, passing_sum}
use Rattle.drain.proofs.RowTests.{in_or_not, none_of_row, same_number}

module _ (g : ObjectGraph) (whole : IsWhole g) (objects : List ℕ) (marks : List Bool) (rows : List Sum) (unresolved : ℕ)
    (once : IsOnce objects) (those : AreThose (λ o. slice_index_or marks o false) (object_count g) objects)
    (tally : IsTallyOf (measure_of g) objects rows unresolved) where
  abbrev marked : List ℕ
  marked = marked_objects g marks

  same_sum : (f : ℕ → ℕ) → sum_by f objects ≡ sum_by f marked
  same_sum f = chosen_sums (λ o. slice_index_or marks o false) (object_count g) objects once those f

  -- the objects of a row, and those of its number
  of_place :
      (row : RowKey) → IsRowIn g row
      → filter (λ o. row_number (row_at g o) == row_number row) marked ≡ of_row g row marked
  of_place row here = λ k. filter (λ o. sym (same_number g row (row_at g o) here (row_there g whole o)) k) marked

  told_in : (row : RowKey) → IsRowIn g row → sum_at rows (row_number row) ≡ total g (of_row g row marked)
  told_in row here = λ k. (count k, bytes k)
    where
      number : ℕ
      number = row_number row

      is : slice_index_or rows number no_object ≡ sum_in (measure_of g) number objects
      is = tally.right number (number_within g row here)

      count : (slice_index_or rows number no_object).count ≡ length (of_row g row marked)
      count =
          ap (λ (s : Sum). s.count) is
          ∙ same_sum (λ o. cond (row_number (row_at g o) == number) 1 0)
          ∙ sym (passing_count (λ o. row_number (row_at g o) == number) marked)
          ∙ ap length (of_place row here)

      bytes : (slice_index_or rows number no_object).bytes ≡ sum_by (bytes_at g) (of_row g row marked)
      bytes =
          ap (λ (s : Sum). s.bytes) is
          ∙ same_sum (λ o. cond (row_number (row_at g o) == number) (bytes_at g o) 0)
          ∙ sym (passing_sum (bytes_at g) (λ o. row_number (row_at g o) == number) marked)
          ∙ ap (sum_by (bytes_at g)) (of_place row here)

  -- for a row of the graph this is the sum at its number
  told_row : (row : RowKey) → IsRowIn g row → sum_of_row rows row ≡ sum_at rows (row_number row)
  told_row (keys.Class n) here = refl
  told_row (keys.Primitive t) here =
      let from = le-leb 4 t here.0 in
      let up = le-leb t 11 here.1 in
      (λ k. cond (from k && nat_le t 11) (sum_at rows (row_number (keys.Primitive t))) (0, 0))
      ∙ (λ k. cond (up k) (sum_at rows (row_number (keys.Primitive t))) (0, 0))
  told_row keys.ClassObject here = refl

  none_told : (row : RowKey) → (IsRowIn g row → ⊥) → sum_of_row rows row ≡ (0, 0)
  none_told (keys.Class n) not_in =
      let past : length rows ≤ 9 + n =
      ⊎_elim (λ low. absurd (not_in low)) (λ h. omega (arith, h, tally.each)) (cases_lt n (class_count g))
      in
      ap (λ (s : Sum). (s.count, s.bytes)) (get_or_past rows (9 + n) no_object past)
  none_told (keys.Primitive t) not_in = go (nat_le 4 t) (nat_le t 11) refl refl
    where
      there : ℕ × ℕ
      there = sum_at rows (t - 4)

      go : (a b : Bool) → nat_le 4 t ≡ a → nat_le t 11 ≡ b → cond (a && b) there (0, 0) ≡ (0, 0)
      go true true from up = absurd (not_in (leb-true 4 t from, leb-true t 11 up))
      go true false from up = refl
      go false b from up = refl
  none_told keys.ClassObject not_in = absurd (not_in tt)

  pub tallied_marking :
      length marks ≡ object_count g
      → IsMarkingOf g (record { marks = marks; sums = rows; unresolved = unresolved })
  tallied_marking one_each = record {
    one_each = one_each;
    tallies = λ row. ⊎_elim (in_graph row) (outside row) (in_or_not g row);
    unresolved_is = tally.unresolved_is ∙ same_sum (unresolved_at g);
  }
    where
      in_graph : (row : RowKey) → IsRowIn g row → sum_of_row rows row ≡ total g (of_row g row marked)
      in_graph row here = told_row row here ∙ told_in row here

      outside : (row : RowKey) → (IsRowIn g row → ⊥) → sum_of_row rows row ≡ total g (of_row g row marked)
      outside row not_in = none_told row not_in ∙ ap (total g) (sym (none_of_row g whole row not_in marked))

-- the finished list at the close has the marked objects
module _ (g : ObjectGraph) (b : Book) (last : Marking) (marks : List ℕ) (ends : MarksTell b last marks)
    (closed : b.account.open_push ≡ false) (objects : b.setup.objects ≡ object_count g) where
  abbrev pub p : ℕ → Bool
  p o = slice_index_or (map is_set marks) o false

  pub finished_are_marked : AreThose p (object_count g) b.account.finished
  finished_are_marked o = (there, back)
    where
      there : (p o ≡ true) × (o < object_count g) → Contains b.account.finished o
      there h = (ends.finished o).0 (ends.emptied closed o ((marked_where_set marks o).0 h.0))

      back : Contains b.account.finished o → (p o ≡ true) × (o < object_count g)
      back h =
          let two : slice_index marks o ≡ 2 = (ends.finished o).1 h in
          let set = (marked_where_set marks o).1 (omega (arith, two)) in
          let below = ⊎_elim
          (λ low. omega (arith, low, ends.count, objects))
          (λ past. absurd (omega (arith, two, get_or_past marks o 0 past)))
          (cases_lt o (length marks)) in
          (set, below)

  pub marking_of :
      IsWhole g → (rows : List Sum) (unresolved : ℕ) → IsTallyOf (measure_of g) b.account.finished rows unresolved
      → IsMarkingOf g (record { marks = map is_set marks; sums = rows; unresolved = unresolved })
  marking_of whole rows unresolved tally =
      tallied_marking g whole b.account.finished (map is_set marks) rows unresolved ends.once finished_are_marked tally
      (length-map marks is_set ∙ ends.count ∙ objects)
