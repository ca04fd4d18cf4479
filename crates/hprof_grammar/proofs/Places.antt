-- Bytes at a place, and what is read there.
use Rattle.hprof_grammar.proofs.Words.{AllByRecursion, Field, Fits, List, Sight, Some, Stands, SubRecord}
use Rattle.hprof_grammar.proofs.Words.{SubRecordStandsAt, [], ap, append_assoc, arith, big_bytes, big_number}
use Rattle.hprof_grammar.proofs.Words.{big_number-reads_back, drop, drop-append_seam, drop-drop, field_spelling}
use Rattle.hprof_grammar.proofs.Words.{fields_of, get_or-drop, kind_of, length, length-append}
use Rattle.hprof_grammar.proofs.Words.{length-bytes_high_first, length-drop, number, raw, refl, slice_index, spelled}
use Rattle.hprof_grammar.proofs.Words.{spelling_of, sub_kind, subst, sym, take, take-append_seam, type_code, ℕ, ◌++◌}
use Rattle.hprof_grammar.proofs.Words.{◌+◌, ◌<◌, ◌^◌, ◌∙◌, ◌∷◌, ◌≡◌, ◌≤◌}
use Rattle.hprof_grammar.specs.SubRecord.{tag_of}
use Rattle.hprof_grammar.proofs.Fields.{all_split, spelled-append}
use Rattle.hprof_grammar.proofs.TableLaws.{kind_says}

-- the bytes from `at` on begin with xs
pub record Spell (bytes : List ℕ) (at : ℕ) (xs : List ℕ) : Type 0 where
  pub inside : at + length xs ≤ length bytes
  pub rest : List ℕ
  pub bytes_are : drop at bytes ≡ xs ++ rest

-- if at least one byte is at the place, the place is inside
pub some_stand : (bytes : List ℕ) (at x : ℕ) (xs rest : List ℕ) → drop at bytes ≡ x ∷ xs ++ rest
    → Spell bytes at (x ∷ xs)
some_stand bytes at x xs rest e = record {
  inside = omega (arith, ap length e, length-drop at bytes, length-append xs rest);
  rest = rest;
  bytes_are = e;
}

pub first_stands : (bytes : List ℕ) (at : ℕ) (xs ys : List ℕ) → Spell bytes at (xs ++ ys) → Spell bytes at xs
first_stands bytes at xs ys h = record {
  inside = omega (arith, h.inside, length-append xs ys);
  rest = ys ++ h.rest;
  bytes_are = h.bytes_are ∙ append_assoc xs ys h.rest;
}

pub next_stands : (bytes : List ℕ) (at : ℕ) (xs ys : List ℕ) → Spell bytes at (xs ++ ys)
    → Spell bytes (at + length xs) ys
next_stands bytes at xs ys h = record {
  inside = omega (arith, h.inside, length-append xs ys);
  rest = h.rest;
  bytes_are = sym (drop-drop (length xs) at bytes) ∙ ap (drop (length xs)) (h.bytes_are ∙ append_assoc xs ys h.rest)
      ∙ drop-append_seam xs (ys ++ h.rest);
}

-- ---- what is read there

pub raw_read : (bytes : List ℕ) (at : ℕ) (xs : List ℕ) → Spell bytes at xs → take (length xs) (drop at bytes) ≡ xs
raw_read bytes at xs h = ap (take (length xs)) h.bytes_are ∙ take-append_seam xs h.rest

-- the number n, of w bytes, is at place `at`
pub record NumberAt (bytes : List ℕ) (at w n : ℕ) : Type 0 where
  pub room : at + w ≤ length bytes
  pub value : big_number w (drop at bytes) ≡ n

pub number_read : (bytes : List ℕ) (at w n : ℕ) → n < 256 ^ w → Spell bytes at (big_bytes w n) → NumberAt bytes at w n
number_read bytes at w n fits h = record {
  room = omega (arith, h.inside, length-bytes_high_first w n);
  value = ap (big_number w) h.bytes_are ∙ big_number-reads_back w n h.rest fits;
}

-- the byte n is at place `at`
pub record ByteAt (bytes : List ℕ) (at n : ℕ) : Type 0 where
  pub room : at < length bytes
  pub value : slice_index bytes at ≡ n

pub byte_read : (bytes : List ℕ) (at n : ℕ) (xs : List ℕ) → Spell bytes at (n ∷ xs) → ByteAt bytes at n
byte_read bytes at n xs h = record {
  room = omega (arith, h.inside);
  value = ap (slice_index bytes) (let same : at ≡ at + 0 = omega arith in same) ∙ sym (get_or-drop at bytes 0 0)
      ∙ ap (λ (l : List ℕ). slice_index l 0) h.bytes_are;
}

-- ---- fields, one after another

abbrev pub width_of : Field → ℕ
width_of (number width value) = width
width_of (type_code place code) = 1
width_of (raw bytes) = length bytes

abbrev pub widths : List Field → ℕ
widths [] = 0
widths (f ∷ fs) = width_of f + widths fs

length-field_spelling : (f : Field) → length (field_spelling f) ≡ width_of f
length-field_spelling (number width value) = length-bytes_high_first width value
length-field_spelling f = refl

pub length-spelled : (fs : List Field) → length (spelled fs) ≡ widths fs
length-spelled [] = refl
length-spelled (f ∷ fs) = omega
    (arith, length-append (field_spelling f) (spelled fs), length-field_spelling f, length-spelled fs)

-- ---- sub-records

pub sub_stands : (s : ℕ) (bytes : List ℕ) (at : ℕ) (sub : SubRecord) → SubRecordStandsAt s bytes at sub
    → Spell bytes at (spelling_of s sub)
sub_stands s bytes at sub h = some_stand bytes at (tag_of sub) (spelled (fields_of s sub)) h.rest h.bytes_are

-- if a view has a sub-record at a place, the view's fields have it there too
pub in_sight : {v w : Sight} {at : ℕ} {sub : SubRecord} → w ≡ v → Stands v at sub → Stands w at sub
in_sight {v} {w} {at} {sub} e h = subst (λ (x : Sight). Stands x at sub) (sym e) h

-- the tag's byte is at the sub-record's place, and says its kind
pub record TagAt (bytes : List ℕ) (at : ℕ) (sub : SubRecord) : Type 0 where
  pub tag : ByteAt bytes at (tag_of sub)
  pub says : kind_of (slice_index bytes at) ≡ Some (sub_kind sub)

pub tagged : {v w : Sight} {at : ℕ} {sub : SubRecord} → w ≡ v → Stands v at sub → TagAt w.bytes at sub
tagged {w = w} {at = at} {sub = sub} e h =
    let spell = sub_stands w.id_size w.bytes at sub (in_sight e h) in
    let there = byte_read w.bytes at (tag_of sub) (spelled (fields_of w.id_size sub)) spell in
    record { tag = there; says = ap kind_of there.value ∙ kind_says sub }

module _ {s at place : ℕ} {bytes : List ℕ} {sub : SubRecord} (front : List Field) where
  -- the other fields follow the tag and the first fields
  pub fields_in : (more : List Field) → SubRecordStandsAt s bytes at sub → fields_of s sub ≡ front ++ more
      → place ≡ at + (1 + widths front) → Spell bytes place (spelled more)
  fields_in more h are place_is =
      let tag = tag_of sub in
      let parts : spelled (fields_of s sub) ≡ spelled front ++ spelled more =
      ap spelled are ∙ spelled-append front more in
      let parted : Spell bytes at ((tag ∷ spelled front) ++ spelled more) =
      subst (λ (l : List ℕ). Spell bytes at (tag ∷ l)) parts (sub_stands s bytes at sub h) in
      let there : at + length (tag ∷ spelled front) ≡ place = omega (arith, place_is, length-spelled front) in
      subst (λ (n : ℕ). Spell bytes n (spelled more)) there
      (next_stands bytes at (tag ∷ spelled front) (spelled more) parted)

  -- a number among the other fields is at its place
  pub number_in : {w n : ℕ} (more : List Field) → SubRecordStandsAt s bytes at sub
      → fields_of s sub ≡ front ++ number w n ∷ more → place ≡ at + (1 + widths front) → NumberAt bytes place w n
  number_in {w} {n} more h are place_is =
      let fit = all_split Fits front (number w n ∷ more) (subst (AllByRecursion Fits) are h.is.formed.numbers) in
      number_read bytes place w n fit.1.0
      (first_stands bytes place (big_bytes w n) (spelled more) (fields_in (number w n ∷ more) h are place_is))
