-- Reading the parts of a class dump that have counts.
use Rattle.hprof_grammar.proofs.Words.{Class, Field, HasCountedValues, InConstant, InStatic, IsConstant, IsPartOf}
use Rattle.hprof_grammar.proofs.Words.{IsStatic, LabelledValue, List, Sight, Stands, [], ap, append_assoc, arith}
use Rattle.hprof_grammar.proofs.Words.{behind_counted_values, big_bytes, big_number-reads_back, class_dump}
use Rattle.hprof_grammar.proofs.Words.{constant_fields, count_in, counted_fields, counted_values_in, drop}
use Rattle.hprof_grammar.proofs.Words.{drop-append_seam, fields_from_constants, fields_from_members}
use Rattle.hprof_grammar.proofs.Words.{fields_from_statics, flat_map, ids_behind_stack, length, length-append}
use Rattle.hprof_grammar.proofs.Words.{length-bytes_high_first, length-drop, map, member_fields, members_in, number}
use Rattle.hprof_grammar.proofs.Words.{of_constant, of_static, refl, spelled, static_fields, subst, sym, ℕ, ◌*◌, ◌++◌}
use Rattle.hprof_grammar.proofs.Words.{◌+◌, ◌<◌, ◌^◌, ◌∙◌, ◌∷◌, ◌≡◌, ◌≤◌}
use Rattle.hprof_grammar.proofs.FormedPartsLaws.{bounds}
use Rattle.hprof_grammar.proofs.Fields.{spelled_then}
use Rattle.hprof_grammar.proofs.Places.{Spell, fields_in, in_sight, length-spelled}
use Rattle.hprof_grammar.proofs.SeriesRead.{AreValues, members_again, values_again, widths-members}

-- the bytes begin with the count n, in 2 bytes
pub record IsCounted (n : ℕ) (others bytes : List ℕ) : Type 0 where
  pub room : 2 ≤ length bytes
  pub count : count_in bytes ≡ n
  pub behind : drop 2 bytes ≡ others

count_again : (n : ℕ) (others : List ℕ) → n < 256 ^ 2 → IsCounted n others (big_bytes 2 n ++ others)
count_again n others fits = record {
  room = omega (arith, length-append (big_bytes 2 n) others, length-bytes_high_first 2 n);
  count = big_number-reads_back 2 n others fits;
  behind = subst (λ (k : ℕ). drop k (big_bytes 2 n ++ others) ≡ others) (length-bytes_high_first 2 n)
      (drop-append_seam (big_bytes 2 n) others);
}

-- the bytes begin with a count and then with that number of values
pub record IsCountedValues (s w : ℕ) (them : List LabelledValue) (others bytes : List ℕ) : Type 0 where
  pub room : HasCountedValues s w bytes
  pub values : counted_values_in s w bytes ≡ them
  pub behind : behind_counted_values s w bytes ≡ others

counted_values : {s w n : ℕ} {them : List LabelledValue} {inner others bytes : List ℕ} → IsCounted n inner bytes
    → AreValues s w n them others inner → IsCountedValues s w them others bytes
counted_values counted are = record {
  room = record { count = counted.room; values = rw (counted.count, counted.behind) are.room };
  values = rw (counted.count, counted.behind) are.values;
  behind = rw (counted.count, counted.behind) are.behind;
}

-- bytes that are spelled from a count on begin with that count
counted_first : {X : Type 0} (fields : X → List Field) (xs : List X) (more : List Field) (rest bytes : List ℕ)
    → length xs < 256 ^ 2 → bytes ≡ spelled (counted_fields fields xs ++ more) ++ rest
    → IsCounted (length xs) (spelled (flat_map fields xs) ++ (spelled more ++ rest)) bytes
counted_first {X} fields xs more rest bytes fits e =
    let inner = spelled (flat_map fields xs) ++ (spelled more ++ rest) in
    let parts : bytes ≡ big_bytes 2 (length xs) ++ inner = e ∙ spelled_then (counted_fields fields xs) more rest
    ∙ append_assoc (big_bytes 2 (length xs)) (spelled (flat_map fields xs)) (spelled more ++ rest) in
    subst (λ (l : List ℕ). IsCounted (length xs) inner l) (sym parts) (count_again (length xs) inner fits)

module _ {s : ℕ} {c : Class} {bytes : List ℕ} (h : IsPartOf s c (fields_from_constants s c) bytes) where
  pub constants_read : IsCountedValues s 2 (map of_constant c.constants) (spelled (fields_from_statics s c) ++ h.rest)
      bytes
  constants_read = counted_values
      (counted_first constant_fields c.constants (fields_from_statics s c) h.rest bytes h.is.constant_count h.bytes_are)
      (values_again s 2 InConstant (λ k. k.index) (λ k. k.type) (λ k. k.value) (IsConstant s)
      (λ k is. (is.index, is.value)) c.constants (spelled (fields_from_statics s c) ++ h.rest) h.is.constants)

  pub behind_constants : {behind : List ℕ} → behind ≡ behind_counted_values s 2 bytes
      → IsPartOf s c (fields_from_statics s c) behind
  behind_constants e = record { rest = h.rest; bytes_are = e ∙ constants_read.behind; is = h.is }

module _ {s : ℕ} {c : Class} {bytes : List ℕ} (h : IsPartOf s c (fields_from_statics s c) bytes) where
  pub statics_read : IsCountedValues s s (map of_static c.statics) (spelled (fields_from_members s c) ++ h.rest) bytes
  statics_read = counted_values
      (counted_first (static_fields s) c.statics (fields_from_members s c) h.rest bytes h.is.static_count h.bytes_are)
      (values_again s s InStatic (λ f. f.name) (λ f. f.type) (λ f. f.value) (IsStatic s)
      (λ f is. (is.name, is.value)) c.statics (spelled (fields_from_members s c) ++ h.rest) h.is.statics)

  pub behind_statics : {behind : List ℕ} → behind ≡ behind_counted_values s s bytes
      → IsPartOf s c (fields_from_members s c) behind
  behind_statics e = record { rest = h.rest; bytes_are = e ∙ statics_read.behind; is = h.is }

module _ {s : ℕ} {c : Class} {bytes : List ℕ} (h : IsPartOf s c (fields_from_members s c) bytes) where
  abbrev members_bytes : List ℕ
  members_bytes = spelled (flat_map (member_fields s) c.members)

  members_counted : IsCounted (length c.members) (members_bytes ++ h.rest) bytes
  members_counted =
      let parts = h.bytes_are ∙ append_assoc (big_bytes 2 (length c.members)) members_bytes h.rest in
      subst (λ (l : List ℕ). IsCounted (length c.members) (members_bytes ++ h.rest) l) (sym parts)
      (count_again (length c.members) (members_bytes ++ h.rest) h.is.member_count)

  pub members_room : 2 + count_in bytes * (s + 1) ≤ length bytes
  members_room = rw members_counted.count (omega (
    arith,
    members_counted.room,
    ap length members_counted.behind,
    length-drop 2 bytes,
    length-append members_bytes h.rest,
    length-spelled (flat_map (member_fields s) c.members),
    widths-members s c.members,
  ))

  pub members_read : members_in s (count_in bytes) (drop 2 bytes) ≡ c.members
  members_read =
      rw (members_counted.count, members_counted.behind) (members_again s c.members h.rest h.is.members)

-- ---- for a w that is what the fields of a view show, and the view v

-- a part of a class, by the view and by its fields
pub part_seen : {v w : Sight} {c : Class} {bytes : List ℕ} (fields : ℕ → Class → List Field) → w ≡ v
    → IsPartOf v.id_size c (fields v.id_size c) bytes → IsPartOf w.id_size c (fields w.id_size c) bytes
part_seen fields e h = rw e h

module _ {v w : Sight} {at : ℕ} {c : Class} (e : w ≡ v) (h : Stands v at (class_dump c)) where
  pub constants_stand : Spell w.bytes (at + 9 + 7 * w.id_size) (spelled (fields_from_constants w.id_size c))
  constants_stand =
      let s = w.id_size in
      let front = number s c.object ∷ number 4 c.stack ∷ map (number s) (ids_behind_stack c)
      ++ number 4 c.instance_size ∷ [] in
      fields_in front (fields_from_constants s c) (in_sight e h) refl (omega arith)

  pub constants_part : {bytes : List ℕ} → bytes ≡ drop (at + 9 + 7 * w.id_size) w.bytes
      → IsPartOf v.id_size c (fields_from_constants v.id_size c) bytes
  constants_part bytes_are = part_seen fields_from_constants (sym e) (record {
    rest = constants_stand.rest;
    bytes_are = bytes_are ∙ constants_stand.bytes_are;
    is = bounds (in_sight e h).is.formed;
  })
