-- A text that grows piece by piece.
use Rattle.std.proofs.Common.{List, [], append_assoc, length, ne_eqb, refl, take, ℕ, ◌++◌, ◌-◌, ◌^◌, ◌∷◌, ◌≡◌, ◌≤◌}
use Rattle.std.specs.Fmt.{decimal, format_spec, styled_decimal}
use Rattle.std.specs.List.{flat_map}
use Rattle.std.specs.Prelude.{codes}
use Rattle.std.proofs.lemmas.List.{take_all}
use Rattle.histogram.proofs.LineText.{right_aligned}
use Rattle.heap_graph.specs.ObjectGraph.{ObjectGraph}
use Rattle.heap_graph.specs.RowNumbers.{numbered_row}
use Rattle.histogram.specs.ShownNames.{shown_row}
use Rattle.held_table.specs.TableText.{joint_line, numbers, shown_set, table_line}
use Rattle.held_table.specs.declared.line.Joint.{Joint}
use Rattle.held_table.specs.declared.line.Line.{Line}

module _ (old : List ℕ) where
  pub numbers_appended : (in_10 in_14 in_2 all : List ℕ) (count bytes remainder : ℕ)
      → in_10 ≡ styled_decimal (format_spec 32 3 0 10 (2 ^ 64 - 1)) count
      → in_14 ≡ styled_decimal (format_spec 32 3 0 14 (2 ^ 64 - 1)) bytes
      → in_2 ≡ styled_decimal (format_spec 32 3 0 2 (2 ^ 64 - 1)) remainder
      → all ≡ old ++ (in_10 ++ 32 ∷ 32 ∷ (in_14 ++ 32 ∷ 32 ∷ (in_2 ++ 32 ∷ 32 ∷ [])))
      → all ≡ old ++ numbers count bytes remainder
  unfolding numbers
  numbers_appended in_10 in_14 in_2 all count bytes remainder ten fourteen two a =
      rw (
        a,
        ten,
        fourteen,
        two,
        right_aligned 10 (decimal count),
        right_aligned 14 (decimal bytes),
        right_aligned 2 (decimal remainder),
      )
      (simp append_assoc)

  pub joint_appended : (j : Joint) {a b c d e f all : List ℕ} → a ≡ old ++ codes "set " → b ≡ a ++ shown_set j.set
      → c ≡ b ++ codes " = " → d ≡ c ++ shown_set j.first → e ≡ d ++ codes " + " → f ≡ e ++ shown_set j.second
      → all ≡ f ++ 10 ∷ [] → all ≡ old ++ joint_line j
  unfolding joint_line
  joint_appended j a b c d e f all = rw (all, f, e, d, c, b, a) (simp append_assoc)

  pub line_appended : (g : ObjectGraph) (l : Line) (name : List ℕ) {a b c d all : List ℕ}
      → name ≡ shown_row g (numbered_row l.row) → a ≡ old ++ numbers l.count l.bytes l.remainder → b ≡ a ++ shown_set l.set
      → c ≡ b ++ codes "  " → d ≡ c ++ name → all ≡ d ++ 10 ∷ [] → all ≡ old ++ table_line g l
  unfolding table_line
  line_appended g l name named a b c d all = rw (all, d, c, b, a, named) (simp append_assoc)

  -- a set
  pub no_label_appended : (s : ℕ) {all : List ℕ} → s ≡ 0 → all ≡ old ++ 45 ∷ [] → all ≡ old ++ shown_set s
  unfolding shown_set
  no_label_appended s none a = rw none a

  pub labels_appended : (s : ℕ) {all : List ℕ} → (s ≡ 0 → ⊥) → all ≡ old ++ decimal (s - 1) → all ≡ old ++ shown_set s
  unfolding shown_set
  labels_appended s some a = rw (ne_eqb s 0 some) a

-- the texts of all items
pub all_appended : {X : Type 0} (show : X → List ℕ) {rows items : List X} (index : ℕ) (old : List ℕ) {all : List ℕ}
    → items ≡ rows → length items ≤ index → all ≡ old ++ flat_map show (take index items)
    → all ≡ old ++ flat_map show rows
all_appended show {rows} {items} index old same end is = rw (is, take_all index items end, same) refl
