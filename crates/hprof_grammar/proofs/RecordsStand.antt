-- The fields of strings and loaded classes, each at its place. In these lemmas w is what the fields of a view show, and
-- v is the view.
use Rattle.hprof_grammar.proofs.Words.{HeaderStands, IsRecord, List, LoadStands, Record, RecordStands, Sight}
use Rattle.hprof_grammar.proofs.Words.{StringStands, [], ap, arith, big_bytes, body_of, header, length, length-append}
use Rattle.hprof_grammar.proofs.Words.{length-bytes_high_first, load_class, magic, refl, subst, tag_of, time_of, ℕ}
use Rattle.hprof_grammar.proofs.Words.{◌++◌, ◌+◌, ◌∷◌, ◌≡◌}
use Rattle.hprof_grammar.proofs.Places.{NumberAt, Spell, first_stands, next_stands, number_read}
use Rattle.hprof_grammar.proofs.Stands.{body_stands, record_stands}

-- bytes that come `size` bytes after a place
moved : (bytes : List ℕ) (at size : ℕ) (xs ys : List ℕ) → length xs ≡ size → Spell bytes at (xs ++ ys)
    → Spell bytes (at + size) ys
moved bytes at size xs ys len h = subst (λ (n : ℕ). Spell bytes (at + n) ys) len (next_stands bytes at xs ys h)

-- ---- any record, and the header

module _ {v w : Sight} {at : ℕ} {r : Record} (e : w ≡ v) (h : RecordStands v at r) where
  record_seen : RecordStands w at r
  record_seen = rw e h

  body_seen : Spell w.bytes (at + 9) (body_of w.id_size r)
  body_seen = body_stands w.bytes at (tag_of r) (time_of r) (body_of w.id_size r)
      (record_stands w.id_size w.bytes at r record_seen)

  pub record_time : NumberAt w.bytes (at + 1) 4 (time_of r)
  record_time =
      let body = body_of w.id_size r in
      let more = big_bytes 4 (length body) ++ body in
      number_read w.bytes (at + 1) 4 (time_of r) record_seen.is.time
      (first_stands w.bytes (at + 1) (big_bytes 4 (time_of r)) more
      (moved w.bytes at 1 (tag_of r ∷ []) (big_bytes 4 (time_of r) ++ more) refl
      (record_stands w.id_size w.bytes at r record_seen)))

  pub record_length : NumberAt w.bytes (at + 5) 4 (length (body_of w.id_size r))
  record_length =
      let body = body_of w.id_size r in
      let front = tag_of r ∷ big_bytes 4 (time_of r) in
      let size = big_bytes 4 (length body) in
      number_read w.bytes (at + 5) 4 (length body) record_seen.is.length_fits
      (first_stands w.bytes (at + 5) size body
      (moved w.bytes at 5 front (size ++ body) (omega (arith, length-bytes_high_first 4 (time_of r)))
      (record_stands w.id_size w.bytes at r record_seen)))

-- the length of a body, by the view
pub length_shown : {v w : Sight} → w ≡ v → (r : Record) → length (body_of w.id_size r) ≡ length (body_of v.id_size r)
length_shown e r = ap (λ (x : Sight). length (body_of x.id_size r)) e

pub header_time : {v w : Sight} {time : ℕ} → w ≡ v → HeaderStands v time → NumberAt w.bytes 23 8 time
header_time {w = w} {time = time} e h =
    let seen : HeaderStands w time = rw e h in
    let all : Spell w.bytes 0 (header w.id_size time) =
    record {
      inside = omega (arith, ap length seen.bytes_are, length-append (header w.id_size time) seen.rest);
      rest = seen.rest;
      bytes_are = seen.bytes_are;
    } in
    let sized = moved w.bytes 0 19 magic (big_bytes 4 w.id_size ++ big_bytes 8 time) refl all in
    number_read w.bytes 23 8 time seen.fits
    (moved w.bytes 19 4 (big_bytes 4 w.id_size) (big_bytes 8 time) (length-bytes_high_first 4 w.id_size) sized)

-- ---- strings

module _ {v w : Sight} {at time id : ℕ} {text : List ℕ} (e : w ≡ v) (h : StringStands v at time id text) where
  pub string_id : NumberAt w.bytes (at + 9) w.id_size id
  string_id =
      number_read w.bytes (at + 9) w.id_size id (record_seen e h).is.parts
      (first_stands w.bytes (at + 9) (big_bytes w.id_size id) text (body_seen e h))

  pub string_length : NumberAt w.bytes (at + 5) 4 (w.id_size + length text)
  string_length =
      let len : length (big_bytes w.id_size id ++ text) ≡ w.id_size + length text =
      omega (arith, length-append (big_bytes w.id_size id) text, length-bytes_high_first w.id_size id) in
      rw len at (record_length e h)

  pub string_text : Spell w.bytes (at + 9 + w.id_size) text
  string_text = moved w.bytes (at + 9) w.id_size (big_bytes w.id_size id) text
      (length-bytes_high_first w.id_size id) (body_seen e h)

-- ---- loaded classes

module _ {v w : Sight} {at time serial class stack name : ℕ} (e : w ≡ v)
    (h : LoadStands v at time serial class stack name) where
  abbrev parts_seen : IsRecord w.id_size (load_class time serial class stack name)
  parts_seen = (record_seen e h).is

  abbrev id_bytes : ℕ → List ℕ
  id_bytes id = big_bytes w.id_size id

  pub loaded_class_serial : NumberAt w.bytes (at + 9) 4 serial
  loaded_class_serial = number_read w.bytes (at + 9) 4 serial parts_seen.parts.0
      (first_stands w.bytes (at + 9) (big_bytes 4 serial) (id_bytes class ++ (big_bytes 4 stack ++ id_bytes name))
      (body_seen e h))

  behind_serial : Spell w.bytes (at + 13) (id_bytes class ++ (big_bytes 4 stack ++ id_bytes name))
  behind_serial =
      let more = id_bytes class ++ (big_bytes 4 stack ++ id_bytes name) in
      let there : at + 9 + 4 ≡ at + 13 = omega arith in
      rw there at
      (moved w.bytes (at + 9) 4 (big_bytes 4 serial) more (length-bytes_high_first 4 serial) (body_seen e h))

  pub loaded_class_id : NumberAt w.bytes (at + 13) w.id_size class
  loaded_class_id = number_read w.bytes (at + 13) w.id_size class parts_seen.parts.1
      (first_stands w.bytes (at + 13) (id_bytes class) (big_bytes 4 stack ++ id_bytes name) behind_serial)

  behind_class : Spell w.bytes (at + 13 + w.id_size) (big_bytes 4 stack ++ id_bytes name)
  behind_class = moved w.bytes (at + 13) w.id_size (id_bytes class) (big_bytes 4 stack ++ id_bytes name)
      (length-bytes_high_first w.id_size class) behind_serial

  pub loaded_class_stack : NumberAt w.bytes (at + 13 + w.id_size) 4 stack
  loaded_class_stack = number_read w.bytes (at + 13 + w.id_size) 4 stack parts_seen.parts.2
      (first_stands w.bytes (at + 13 + w.id_size) (big_bytes 4 stack) (id_bytes name) behind_class)

  pub loaded_class_name : NumberAt w.bytes (at + 17 + w.id_size) w.id_size name
  loaded_class_name =
      let there : at + 13 + w.id_size + 4 ≡ at + 17 + w.id_size = omega arith in
      number_read w.bytes (at + 17 + w.id_size) w.id_size name parts_seen.parts.3
      (rw there at (moved w.bytes (at + 13 + w.id_size) 4 (big_bytes 4 stack) (id_bytes name)
      (length-bytes_high_first 4 stack) behind_class))
