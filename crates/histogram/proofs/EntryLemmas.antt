-- The entries of a histogram by the numbers of the rows.
use Rattle.std.proofs.Common.{◌≡◌, ℕ, suc, zero, ◌+◌, ◌<◌, ◌≤◌, List, [], ◌∷◌, ◌++◌, map, filter}
use Rattle.std.proofs.Common.{nat_lt, refl, sym, ap, ◌∙◌, arith, append-nil}
use Rattle.std.specs.List.{range_with_len}
use Rattle.std.proofs.lemmas.Bool.{le-ltb, lt-ltb}
use Rattle.std.proofs.lemmas.List.{map-append}
use Rattle.std.proofs.lemmas.List.FromFn.{filter_of_map_range_with_len_more}
use Rattle.std.proofs.lemmas.Simd.{map-map}
use Rattle.histogram.specs.Histogram.{Entry, all_rows, entries, entry, of_row, total}
use Rattle.heap_graph.specs.ObjectGraph.{ObjectGraph, class_count}
use Rattle.heap_graph.specs.declared.row.RowKey.{RowKey}
use Rattle.heap_graph.specs.declared.row.RowKey.TheVariants as keys
use Rattle.heap_graph.specs.RowNumbers.{numbered_row, row_count}
use Rattle.heap_graph.proofs.RowNumberLaws.{at_class}
use Rattle.histogram.specs.working.RowNumbers.{entries_below, row_entry}

-- the rows of a graph are those of the numbers below their count
classes_numbered : (m k n : ℕ) → m ≡ 9 + k
    → map keys.Class (range_with_len k n) ≡ map numbered_row (range_with_len m n)
classes_numbered m k zero e = refl
classes_numbered m k (suc n) e =
    let first : keys.Class k ≡ numbered_row m = sym (ap numbered_row e ∙ at_class k) in
    λ i. first i ∷ classes_numbered (m + 1) (k + 1) n (omega (arith, e)) i

all_rows_numbered : (g : ObjectGraph) → all_rows g ≡ map numbered_row (range_with_len 0 (row_count g))
all_rows_numbered g =
    let count = class_count g in
    let nine_first : row_count g ≡ suc (suc (suc (suc (suc (suc (suc (suc (suc count)))))))) = omega arith in
    ap (λ rows. map keys.Primitive (range_with_len 4 8) ++ keys.ClassObject ∷ rows) (classes_numbered 9 0 count refl)
    ∙ ap (λ n. map numbered_row (range_with_len 0 n)) (sym nine_first)

pub entries_numbered : (g : ObjectGraph) (xs : List ℕ)
    → entries g xs ≡ entries_below g xs (row_count g)
unfolding entries
entries_numbered g xs = ap (λ rows. filter (λ e. nat_lt 0 e.count) (map (entry g xs) rows)) (all_rows_numbered g)
    ∙ ap (filter (λ e. nat_lt 0 e.count))
    (map-map (entry g xs) numbered_row (range_with_len 0 (row_count g)))

pub all_entries : (g : ObjectGraph) (xs : List ℕ) (shown : List Entry) (n : ℕ) → n ≡ row_count g
    → shown ≡ entries_below g xs n → shown ≡ entries g xs
all_entries g xs shown n all are = are ∙ ap (entries_below g xs) all ∙ sym (entries_numbered g xs)

-- the numbers of a row, and a list of lines to which its line is added
module _ {X : Type 0} (g : ObjectGraph) (xs : List ℕ) (show : X → Entry) (lines : List X) (n count bytes : ℕ)
    (told : (count, bytes) ≡ total g (of_row g (numbered_row n) xs))
    (were : map show lines ≡ entries_below g xs n) where
  f : ℕ → Entry
  f k = entry g xs (numbered_row k)

  entry_at : row_entry g (numbered_row n) (count, bytes) ≡ f n
  unfolding f
  entry_at = ap (row_entry g (numbered_row n)) told

  -- with one more line
  pub line_more :
      (pushed : List X) (line : X) (row : RowKey) → 0 < count → row ≡ numbered_row n
      → show line ≡ row_entry g row (count, bytes) → pushed ≡ lines ++ line ∷ []
      → map show pushed ≡ entries_below g xs (n + 1)
  unfolding f
  line_more pushed line row some row_is line_is more =
      let shown : show line ≡ f n = line_is ∙ ap (λ r. row_entry g r (count, bytes)) row_is ∙ entry_at in
      let counted : 0 < (f n).count = omega (arith, some, ap (λ (e : Entry). e.count) entry_at) in
      rw (
        more,
        map-append show lines (line ∷ []),
        were,
        shown,
        filter_of_map_range_with_len_more (λ e. nat_lt 0 e.count) f 0 n n (omega arith),
        lt-ltb 0 ((f n).count) counted,
      ) refl

  -- or without one, if the row has no object
  pub line_less : count ≤ 0 → map show lines ≡ entries_below g xs (n + 1)
  unfolding f
  line_less none =
      let empty : (f n).count ≤ 0 = omega (arith, none, ap (λ (e : Entry). e.count) entry_at) in
      rw (
        were,
        filter_of_map_range_with_len_more (λ e. nat_lt 0 e.count) f 0 n n (omega arith),
        le-ltb 0 ((f n).count) empty,
      ) (sym (append-nil (entries_below g xs n)))
