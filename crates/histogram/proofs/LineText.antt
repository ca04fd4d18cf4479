-- The text of one line, and a text that grows piece by piece.
use Rattle.std.proofs.Common.{◌≡◌, ℕ, ◌+◌, ◌-◌, ◌^◌, ◌<◌, List, [], ◌∷◌, ◌++◌, Result, Ok, Err, OnOk, is_ok, true}
use Rattle.std.proofs.Common.{false, length, map, take, get_or, ◌≤◌, refl, ap, ◌∙◌, append_assoc, replicate, append-nil}
use Rattle.std.proofs.Common.{suc, zero, arith}
use Rattle.std.specs.Fmt.{char_count, decimal, digits, format_spec, padded_integral, styled_decimal}
use Rattle.std.specs.List.{flat_map, repeat}
use lib.Utf8.{encode}
use Rattle.std.proofs.lemmas.Fmt.{hex_byte}
use Rattle.std.proofs.lemmas.List.Folds.{flat_map-map}
use Rattle.std.proofs.lemmas.List.{flat_map_more, take_all, take_more}
use Rattle.histogram.specs.Histogram.{Entry}
use Rattle.histogram.specs.Report.{line, line_of, right_in}
use Rattle.histogram.specs.ShownNames.{is_plain, shown_byte}

-- a fact about Ok, if the call returned Ok
pub from_ok : {T E : Type 0} {P : Type 0} (r : Result T E) → is_ok r ≡ true → OnOk r P → P
from_ok (Ok x) e h = h
from_ok (Err x) e h = absurd (cc e)

spaces : (n : ℕ) → repeat {A = ℕ} n (32 ∷ []) ≡ replicate n 32
spaces zero = refl
spaces (suc n) = ap (λ xs. 32 ∷ xs) (spaces n)

-- padding before a text and none after it, as std writes it
in_parts : (before after padding : ℕ) (text : List ℕ) → before ≡ padding → after ≡ 0
    → (((repeat {A = ℕ} before (32 ∷ []) ++ []) ++ []) ++ []) ++ (text ++ repeat {A = ℕ} after (32 ∷ []))
    ≡ replicate padding 32 ++ text
in_parts before after padding text same none = rw (same, none, spaces padding) (simp append-nil)

pub right_aligned : (width : ℕ) (text : List ℕ)
    → padded_integral (format_spec 32 3 0 width (2 ^ 64 - 1)) false [] text ≡ right_in width text
unfolding padded_integral char_count encode
right_aligned width text =
    let room = width - length text in
    in_parts (room - 0 - 0) (room - 0 - 0 - (room - 0 - 0)) room text (omega arith) (omega arith)

-- appended to an old text
module _ (old : List ℕ) where
  -- the parts of a line
  pub line_appended : (in_10 in_14 numbers named all : List ℕ) (count bytes : ℕ) (name : List ℕ)
      → in_10 ≡ styled_decimal (format_spec 32 3 0 10 (2 ^ 64 - 1)) count
      → in_14 ≡ styled_decimal (format_spec 32 3 0 14 (2 ^ 64 - 1)) bytes
      → numbers ≡ old ++ (in_10 ++ 32 ∷ 32 ∷ (in_14 ++ 32 ∷ 32 ∷ []))
      → named ≡ numbers ++ name → all ≡ named ++ 10 ∷ [] → all ≡ old ++ line count bytes name
  unfolding line
  line_appended in_10 in_14 numbers named all count bytes name ten fourteen a b c =
      rw (c, b, a, ten, fourteen, right_aligned 10 (decimal count), right_aligned 14 (decimal bytes))
      (simp append_assoc)

  -- a byte that is not plain
  pub escaped : (new : List ℕ) (byte : ℕ) → byte < 256 → is_plain byte ≡ false
      → new ≡ old ++ 0x5C ∷ 0x78 ∷ padded_integral (format_spec 32 0 4 2 (2 ^ 64 - 1)) false [] (digits 16 false byte)
      → new ≡ old ++ shown_byte byte
  escaped new byte small not_plain is = rw not_plain (rw (hex_byte false byte small) at is)

-- the lines of all rows
pub rows_told : {X : Type 0} (entry : X → Entry) {rows items : List X} (index : ℕ) {lines : List ℕ} → items ≡ rows
    → length items ≤ index → lines ≡ flat_map (λ r. line_of (entry r)) (take index items)
    → lines ≡ flat_map line_of (map entry rows)
rows_told entry {rows} {items} index same end is =
    rw (is, take_all index items end, same, flat_map-map line_of entry rows) refl

-- three lines after a text
pub three_more : (first second third : List ℕ) {start lines one two all : List ℕ} → lines ≡ start
    → one ≡ lines ++ first → two ≡ one ++ second → all ≡ two ++ third → all ≡ start ++ (first ++ (second ++ third))
three_more first second third is a b c = rw (c, b, a, is) (simp append_assoc)
