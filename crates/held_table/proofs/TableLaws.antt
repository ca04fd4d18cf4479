-- The parts of a table.
use Rattle.std.proofs.Common.{All, IsPermutation, List, None, Option, Some, ap, arith, length, option_map, refl}
use Rattle.std.proofs.Common.{slice_index, subst, sym}
use Rattle.std.proofs.Common.{ℕ, ◌%◌, ◌+◌, ◌++◌, ◌<◌, ◌∙◌, ◌∷◌, ◌≡◌, [], add-one}
use Rattle.std.specs.Cmp.{IsTotalOrder}
use Rattle.std.specs.List.{range_with_len}
use Rattle.std.proofs.lemmas.Cmp.{back_total, nat_cmp_total, on_total, then_total}
use Rattle.std.proofs.lemmas.List.Sorted.{All-permutation}
use Rattle.heap_graph.specs.ObjectGraph.{ObjectGraph, bytes_at, row_at}
use Rattle.heap_graph.specs.RowNumbers.{row_count, row_number}
use Rattle.label_flow.specs.Flow.{Flow, set_of}
use Rattle.label_sets.specs.Sets.{Store}
use Rattle.held_table.specs.Table.{HaveSameLabels}
use Rattle.held_table.specs.Tally.{IsTally, compare, remainder_at}
use Rattle.held_table.specs.declared.line.Key.{Key}
use Rattle.held_table.specs.declared.line.Line.{Line}
use Rattle.held_table.specs.working.Counting.{add_line, one_object}
use Rattle.held_table.specs.working.Marking.{IsPlainLine}
use Rattle.held_table.specs.working.Plains.{ArePlains, IsShown, shown_by}
use Rattle.held_table.proofs.CountingLaws.{kept_added, range_more, tally_with, tally_without}

pub compare_total : IsTotalOrder compare
compare_total = then_total (back_total (on_total (λ (l : Line). l.bytes) nat_cmp_total))
    (then_total (back_total (on_total (λ (l : Line). l.count) nat_cmp_total))
    (then_total (on_total (λ (l : Line). l.set) nat_cmp_total)
    (then_total (on_total (λ (l : Line). l.row) nat_cmp_total)
    (on_total (λ (l : Line). l.remainder) nat_cmp_total))))

-- ---- one more object

range_next : (n : ℕ) → range_with_len 0 (n + 1) ≡ range_with_len 0 n ++ n ∷ []
range_next n = ap (range_with_len 0) (add-one n) ∙ range_more 0 n n (omega arith)

module _ (g : ObjectGraph) (shown : ℕ → Option ℕ) (o : ℕ) (lines : List Line)
    (tally : IsTally g shown (range_with_len 0 o) lines) where
  pub next_without : shown o ≡ None → IsTally g shown (range_with_len 0 (o + 1)) lines
  next_without none = subst (λ os. IsTally g shown os lines) (sym (range_next o))
      (tally_without g shown (range_with_len 0 o) o none lines tally)

  pub next_with : (s row remainder bytes : ℕ) (new : List Line) → shown o ≡ Some s → row ≡ row_number (row_at g o)
      → remainder ≡ bytes % 16 → bytes ≡ bytes_at g o
      → new ≡ add_line (one_object (record { set = s; row = row; remainder = remainder }) bytes) lines
      → IsTally g shown (range_with_len 0 (o + 1)) new
  next_with s row remainder bytes new is row_is remainder_is bytes_is new_is =
      let rest : remainder ≡ remainder_at g o = remainder_is ∙ ap (λ n. n % 16) bytes_is in
      let x : Line = record {
        set = s;
        row = row_number (row_at g o);
        remainder = remainder_at g o;
        count = 1;
        bytes = bytes_at g o;
      } in
      let same : one_object (record { set = s; row = row; remainder = remainder }) bytes ≡ x =
      λ i. record { set = s; row = row_is i; remainder = rest i; count = 1; bytes = bytes_is i } in
      let all : new ≡ add_line x lines = new_is ∙ ap (λ y. add_line y lines) same in
      subst (λ ls. IsTally g shown (range_with_len 0 (o + 1)) ls) (sym all)
      (subst (λ os. IsTally g shown os (add_line x lines)) (sym (range_next o))
      (tally_with g shown (range_with_len 0 o) o s is lines tally))

pub next_shown : (g : ObjectGraph) (store : Store) (count : ℕ) (lines new : List Line) (key : Key) (bytes : ℕ)
    → All (λ l. IsShown g store count l.set l.row) lines → IsShown g store count key.set key.row
    → new ≡ add_line (one_object key bytes) lines → All (λ l. IsShown g store count l.set l.row) new
next_shown g store count lines new key bytes were here is =
    subst (All (λ (l : Line). IsShown g store count l.set l.row)) (sym is)
    (kept_added (one_object key bytes) (λ s r m. IsShown g store count s r) here lines were)

-- the set of an object, and the number under which it is shown
pub shown_some : (flow : Flow) (plains : List ℕ) (o n : ℕ) → Some n ≡ set_of flow o
    → shown_by flow plains o ≡ Some (slice_index plains n)
shown_some flow plains o n is = ap (option_map (slice_index plains)) (sym is)

pub shown_none : (flow : Flow) (plains : List ℕ) (o : ℕ) → None ≡ set_of flow o → shown_by flow plains o ≡ None
shown_none flow plains o is = ap (option_map (slice_index plains)) (sym is)

pub same_labels : (store : Store) (plains : List ℕ) → ArePlains store (length plains) plains → (m : Option ℕ)
    → ((s : ℕ) → m ≡ Some s → s < length plains) → HaveSameLabels store m (option_map (slice_index plains) m)
same_labels store plains plain None within = tt
same_labels store plains plain (Some s) within = sym (plain s (within s refl)).labels_are

-- ---- the sorted lines

pub plain_lines : (g : ObjectGraph) (store other : Store) (count many : ℕ) (lines sorted items : List Line)
    → IsPermutation lines sorted → All (λ l. IsShown g store count l.set l.row) lines → other ≡ store → many ≡ count
    → items ≡ sorted → All (IsPlainLine other many) items
plain_lines g store other count many lines sorted items moved shown store_is count_is items_are =
    let plain : All (IsPlainLine store count) sorted =
    All-permutation (IsPlainLine store count) lines sorted moved
    (λ k d h. let it = shown k d h in record { within = it.set_within; plain = it.set_plain }) in
    subst (All (IsPlainLine other many)) (sym items_are)
    (subst (λ n. All (IsPlainLine other n) sorted) (sym count_is)
    (subst (λ s. All (IsPlainLine s count) sorted) (sym store_is) plain))

pub rows_lines : (g : ObjectGraph) (store : Store) (count : ℕ) (lines sorted : List Line) → IsPermutation lines sorted
    → All (λ l. IsShown g store count l.set l.row) lines → All (λ l. l.row < row_count g) sorted
rows_lines g store count lines sorted moved shown =
    All-permutation (λ l. l.row < row_count g) lines sorted moved (λ k d h. (shown k d h).row_within)
