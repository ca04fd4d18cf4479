-- The fields of sub-records, each at its place. In these lemmas w is what the fields of a view show, and v is the view.
use Rattle.hprof_grammar.proofs.Words.{Class, Field, InArray, Instance, List, ObjectArray, PrimitiveArray, Sight, Some}
use Rattle.hprof_grammar.proofs.Words.{Stands, SubRecord, SubRecordStandsAt, [], ap, arith, class_dump, class_fields}
use Rattle.hprof_grammar.proofs.Words.{drop, fields_of, id_of, ids_behind_stack, instance_dump, is_object, length, map}
use Rattle.hprof_grammar.proofs.Words.{number, numbers_in, object_array_dump, primitive_array_dump}
use Rattle.hprof_grammar.proofs.Words.{primitive_array_fields, raw, refl, root, size_of, slice_index, spelled, stack_of}
use Rattle.hprof_grammar.proofs.Words.{suc, sym, take, true, type_code, zero, ℕ, ◌*◌, ◌++◌, ◌+◌, ◌<◌, ◌∙◌, ◌∷◌, ◌≡◌}
use Rattle.hprof_grammar.proofs.Words.{◌≤◌}
use Rattle.hprof_grammar.proofs.FormedPartsLaws.{bounds}
use Rattle.hprof_grammar.proofs.Fields.{spelled-append}
use Rattle.hprof_grammar.proofs.SeriesRead.{numbers_again, widths-numbers}
use Rattle.hprof_grammar.proofs.Places.{ByteAt, NumberAt, Spell, byte_read, fields_in, first_stands, in_sight}
use Rattle.hprof_grammar.proofs.Places.{length-spelled, number_in}

-- ---- any sub-record

object_first : (s : ℕ) (sub : SubRecord) → fields_of s sub ≡ number s (id_of sub) ∷ drop 1 (fields_of s sub)
object_first s (root r) = refl
object_first s sub = refl

-- the stack trace is the field after the object
record StackField (s : ℕ) (sub : SubRecord) : Type 0 where
  stack : ℕ
  is : stack_of sub ≡ Some stack
  fields_are : fields_of s sub ≡ number s (id_of sub) ∷ number 4 stack ∷ drop 2 (fields_of s sub)

stack_field : (s : ℕ) (sub : SubRecord) → is_object sub ≡ true → StackField s sub
stack_field s (root r) is = cc
stack_field s (class_dump c) is = record { stack = c.stack; is = refl; fields_are = refl }
stack_field s (instance_dump i) is = record { stack = i.stack; is = refl; fields_are = refl }
stack_field s (object_array_dump a) is = record { stack = a.stack; is = refl; fields_are = refl }
stack_field s (primitive_array_dump a) is = record { stack = a.stack; is = refl; fields_are = refl }

-- the stack trace of an object's dump
pub record StackAt (bytes : List ℕ) (at : ℕ) (sub : SubRecord) : Type 0 where
  pub stack : ℕ
  pub is : stack_of sub ≡ Some stack
  pub there : NumberAt bytes at 4 stack

pub object_id : {v w : Sight} {at : ℕ} {sub : SubRecord} → w ≡ v → Stands v at sub
    → NumberAt w.bytes (at + 1) w.id_size (id_of sub)
object_id {w = w} {sub = sub} e h = number_in [] _ (in_sight e h) (object_first w.id_size sub) (omega arith)

pub stack_trace : {v w : Sight} {at : ℕ} {sub : SubRecord} → w ≡ v → is_object sub ≡ true → Stands v at sub
    → StackAt w.bytes (at + 1 + w.id_size) sub
stack_trace {w = w} {sub = sub} e is h =
    let field = stack_field w.id_size sub is in
    let there = number_in (number w.id_size (id_of sub) ∷ []) _ (in_sight e h) field.fields_are (omega arith) in
    record { stack = field.stack; is = field.is; there = there }

-- ---- instances

module _ {v w : Sight} {at : ℕ} {i : Instance} (e : w ≡ v) (h : Stands v at (instance_dump i)) where
  abbrev instance_front : List Field
  instance_front = number w.id_size i.object ∷ number 4 i.stack ∷ number w.id_size i.class ∷ []

  pub instance_class : NumberAt w.bytes (at + 5 + w.id_size) w.id_size i.class
  instance_class = number_in (take 2 instance_front) _ (in_sight e h) refl (omega arith)

  pub instance_count : NumberAt w.bytes (at + 5 + 2 * w.id_size) 4 (length i.values)
  instance_count = number_in instance_front _ (in_sight e h) refl (omega arith)

  pub instance_values : Spell w.bytes (at + 9 + 2 * w.id_size) i.values
  instance_values = first_stands w.bytes (at + 9 + 2 * w.id_size) i.values []
      (fields_in (instance_front ++ number 4 (length i.values) ∷ []) (raw i.values ∷ []) (in_sight e h) refl
      (omega arith))

-- ---- object arrays

module _ {v w : Sight} {at : ℕ} {a : ObjectArray} (e : w ≡ v) (h : Stands v at (object_array_dump a)) where
  abbrev array_front : List Field
  array_front = number w.id_size a.object ∷ number 4 a.stack ∷ number 4 (length a.elements)
      ∷ number w.id_size a.class ∷ []

  pub array_count : NumberAt w.bytes (at + 5 + w.id_size) 4 (length a.elements)
  array_count = number_in (take 2 array_front) _ (in_sight e h) refl (omega arith)

  pub array_class : NumberAt w.bytes (at + 9 + w.id_size) w.id_size a.class
  array_class = number_in (take 3 array_front) _ (in_sight e h) refl (omega arith)

  array_elements_stand : Spell w.bytes (at + 9 + 2 * w.id_size) (spelled (map (number w.id_size) a.elements))
  array_elements_stand = fields_in array_front (map (number w.id_size) a.elements) (in_sight e h) refl (omega arith)

  pub array_room : at + 9 + 2 * w.id_size + length a.elements * w.id_size ≤ length w.bytes
  array_room = omega (
    arith,
    array_elements_stand.inside,
    length-spelled (map (number w.id_size) a.elements),
    widths-numbers w.id_size a.elements,
  )

  pub array_elements : numbers_in w.id_size (length a.elements) (drop (at + 9 + 2 * w.id_size) w.bytes) ≡ a.elements
  array_elements =
      ap (numbers_in w.id_size (length a.elements)) array_elements_stand.bytes_are
      ∙ numbers_again w.id_size a.elements array_elements_stand.rest (bounds (in_sight e h).is.formed).elements

-- ---- primitive arrays

module _ {v w : Sight} {at : ℕ} {a : PrimitiveArray} (e : w ≡ v) (h : Stands v at (primitive_array_dump a)) where
  abbrev packed_front : List Field
  packed_front = number w.id_size a.object ∷ number 4 a.stack ∷ number 4 a.count ∷ type_code InArray a.type ∷ []

  pub element_count : NumberAt w.bytes (at + 5 + w.id_size) 4 a.count
  element_count = number_in (take 2 packed_front) _ (in_sight e h) refl (omega arith)

  pub element_type : ByteAt w.bytes (at + 9 + w.id_size) a.type
  element_type = byte_read w.bytes (at + 9 + w.id_size) a.type (spelled (raw a.values ∷ []))
      (fields_in (take 3 packed_front) (drop 3 (primitive_array_fields w.id_size a)) (in_sight e h) refl (omega arith))

  pub packed_elements : Spell w.bytes (at + 10 + w.id_size) a.values
  packed_elements = first_stands w.bytes (at + 10 + w.id_size) a.values []
      (fields_in packed_front (raw a.values ∷ []) (in_sight e h) refl (omega arith))

-- the number of bytes of the values, by the view
pub packed_size : {v : Sight} {at count type size : ℕ} {a : PrimitiveArray} → Stands v at (primitive_array_dump a)
    → count ≡ a.count → type ≡ a.type → size ≡ size_of v.id_size type → count * size ≡ length a.values
packed_size {v} h counted typed sized = rw (counted, sized, typed) (sym h.is.formed.sizes)

-- ---- classes

-- the fields before identifier n of those after the stack trace, counted from 0
abbrev before_id : ℕ → Class → ℕ → List Field
before_id s c n = number s c.object ∷ number 4 c.stack ∷ map (number s) (take n (ids_behind_stack c))

class_id_stands : {s at : ℕ} {bytes : List ℕ} {c : Class} (n : ℕ) → n < 6 → SubRecordStandsAt s bytes at (class_dump c)
    → NumberAt bytes (at + 5 + s + n * s) s (slice_index (ids_behind_stack c) n)
class_id_stands {s} {c = c} zero below h = number_in (before_id s c 0) _ h refl (omega arith)
class_id_stands {s} {c = c} (suc zero) below h = number_in (before_id s c 1) _ h refl (omega arith)
class_id_stands {s} {c = c} (suc (suc zero)) below h = number_in (before_id s c 2) _ h refl (omega arith)
class_id_stands {s} {c = c} (suc (suc (suc zero))) below h = number_in (before_id s c 3) _ h refl (omega arith)
class_id_stands {s} {c = c} (suc (suc (suc (suc zero)))) below h = number_in (before_id s c 4) _ h refl (omega arith)
class_id_stands {s} {c = c} (suc (suc (suc (suc (suc zero))))) below h =
    number_in (before_id s c 5) _ h refl (omega arith)
class_id_stands (suc (suc (suc (suc (suc (suc n)))))) below h = absurd (omega (arith, below))

pub class_id : {v w : Sight} {at : ℕ} {c : Class} (n : ℕ) → w ≡ v → n < 6 → Stands v at (class_dump c)
    → NumberAt w.bytes (at + 5 + w.id_size + n * w.id_size) w.id_size (slice_index (ids_behind_stack c) n)
class_id n e below h = class_id_stands n below (in_sight e h)

module _ {v w : Sight} {at : ℕ} {c : Class} (e : w ≡ v) (h : Stands v at (class_dump c)) where
  abbrev leading : List ℕ
  leading = take 4 (ids_behind_stack c)

  leading_ids_stand : Spell w.bytes (at + 5 + w.id_size) (spelled (map (number w.id_size) leading))
  leading_ids_stand =
      let ids = map (number w.id_size) leading in
      let more = drop 6 (class_fields w.id_size c) in
      let there : Spell w.bytes (at + 5 + w.id_size) (spelled (ids ++ more)) =
      fields_in (before_id w.id_size c 0) (ids ++ more) (in_sight e h) refl (omega arith) in
      first_stands w.bytes (at + 5 + w.id_size) (spelled ids) (spelled more) (rw spelled-append at there)

  pub leading_ids_room : at + 5 + w.id_size + 4 * w.id_size ≤ length w.bytes
  leading_ids_room = omega (arith, leading_ids_stand.inside, length-spelled (map (number w.id_size) leading))

  pub leading_ids : numbers_in w.id_size 4 (drop (at + 5 + w.id_size) w.bytes) ≡ leading
  leading_ids =
      let is = bounds (in_sight e h).is.formed in
      ap (numbers_in w.id_size 4) leading_ids_stand.bytes_are
      ∙ numbers_again w.id_size leading leading_ids_stand.rest (is.super, (is.loader, (is.signers, (is.domain, tt))))

  pub instance_size : NumberAt w.bytes (at + 5 + 7 * w.id_size) 4 c.instance_size
  instance_size = number_in (before_id w.id_size c 6) _ (in_sight e h) refl (omega arith)
