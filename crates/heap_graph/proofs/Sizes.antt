-- An object has no more bytes than its spelling.
use Rattle.heap_graph.proofs.Words.{AllByRecursion, Field, InArray, InStatic, IsStatic, IsSubRecord, List, Static}
use Rattle.heap_graph.proofs.Words.{SubRecord, [], ap, append-nil, arith, bounds, bytes_of, class_dump, constant_fields}
use Rattle.heap_graph.proofs.Words.{flat_map, flat_map-append, instance_dump, length, length-append}
use Rattle.heap_graph.proofs.Words.{length-bytes_high_first, map, member_fields, nat_tests, number, object_array_dump}
use Rattle.heap_graph.proofs.Words.{primitive_array_dump, raw, root, size_of, spelled, spelling_of, static_fields}
use Rattle.heap_graph.proofs.Words.{sum_by, sum_by-cons, true, type_code, ℕ, ◌*◌, ◌++◌, ◌+◌, ◌∙◌, ◌∷◌, ◌≡◌, ◌≤◌}
use Rattle.hprof_grammar.specs.Spelling as spelling
use Rattle.hprof_grammar.specs.TagsAndTypes.{is_id_size, is_type_at}

-- ---- two facts of the tables

pub id_size_range : (s : ℕ) → is_id_size s ≡ true → (1 ≤ s) × (s ≤ 8)
unfolding is_id_size
id_size_range s h = (grind (arith, nat_tests), grind (arith, nat_tests))

pub array_type_range : (t : ℕ) → is_type_at InArray t ≡ true → (4 ≤ t) × (t ≤ 11)
unfolding is_type_at
array_type_range t h = (grind (arith, nat_tests), grind (arith, nat_tests))

-- ---- lengths of spellings

joined : (xs ys : List Field) → length (spelled (xs ++ ys)) ≡ length (spelled xs) + length (spelled ys)
joined xs ys = ap length (flat_map-append spelling.field_spelling xs ys) ∙ length-append (spelled xs) (spelled ys)

behind_field : (f : Field) (fs : List Field) → length (spelled fs) ≤ length (spelled (f ∷ fs))
behind_field f fs = omega (arith, length-append (spelling.field_spelling f) (spelled fs))

number_width : (width value : ℕ) → length (spelling.field_spelling (number width value)) ≡ width
number_width width value = length-bytes_high_first width value

raw_width : (bytes : List ℕ) → length (spelled (raw bytes ∷ [])) ≡ length bytes
raw_width bytes = ap length (append-nil bytes)

numbers_width : (s : ℕ) (values : List ℕ) → length (spelled (map (number s) values)) ≡ length values * s
numbers_width s [] = omega arith
numbers_width s (v ∷ vs) = omega (
  arith,
  length-append (spelling.field_spelling (number s v)) (spelled (map (number s) vs)),
  number_width s v,
  numbers_width s vs,
)

static_width : (s : ℕ) (f : Static) → IsStatic s f → size_of s f.type ≤ length (spelled (static_fields s f))
static_width s f is =
    let front : List Field = number s f.name ∷ type_code InStatic f.type ∷ [] in
    omega (arith, is.value, raw_width f.value, joined front (raw f.value ∷ []))

statics_width : (s : ℕ) (fs : List Static) → AllByRecursion (IsStatic s) fs
    → sum_by (λ f. size_of s f.type) fs ≤ length (spelled (flat_map (static_fields s) fs))
statics_width s [] all = omega arith
statics_width s (f ∷ fs) all =
    omega (
      arith,
      sum_by-cons (λ (x : Static). size_of s x.type) f fs,
      static_width s f all.0,
      statics_width s fs all.1,
      joined (static_fields s f) (flat_map (static_fields s) fs),
    )

pub bytes_width : (s : ℕ) (o : SubRecord) → IsSubRecord s o → bytes_of s o ≤ length (spelling_of s o)
bytes_width s (root r) is = omega arith
bytes_width s (class_dump c) is =
    let front : List Field = number s c.object ∷ number 4 c.stack ∷ number s c.super ∷ number s c.loader
    ∷ number s c.signers ∷ number s c.domain ∷ number s c.reserved ∷ number s c.reserved_too
    ∷ number 4 c.instance_size ∷ number 2 (length c.constants) ∷ flat_map constant_fields c.constants in
    let middle : List Field = number 2 (length c.statics) ∷ flat_map (static_fields s) c.statics in
    let back : List Field = number 2 (length c.members) ∷ flat_map (member_fields s) c.members in
    omega (
      arith,
      statics_width s c.statics (bounds is.formed).statics,
      behind_field (number 2 (length c.statics)) (flat_map (static_fields s) c.statics),
      joined middle back,
      joined front (middle ++ back),
    )
bytes_width s (instance_dump i) is =
    let front : List Field =
    number s i.object ∷ number 4 i.stack ∷ number s i.class ∷ number 4 (length i.values) ∷ [] in
    omega (arith, raw_width i.values, joined front (raw i.values ∷ []))
bytes_width s (object_array_dump a) is =
    let front : List Field =
    number s a.object ∷ number 4 a.stack ∷ number 4 (length a.elements) ∷ number s a.class ∷ [] in
    omega (arith, numbers_width s a.elements, joined front (map (number s) a.elements))
bytes_width s (primitive_array_dump a) is =
    let front : List Field =
    number s a.object ∷ number 4 a.stack ∷ number 4 a.count ∷ type_code InArray a.type ∷ [] in
    omega (arith, is.formed.sizes, raw_width a.values, joined front (raw a.values ∷ []))
