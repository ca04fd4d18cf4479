-- Tests that compute whether a literal sub-record or record keeps the format. Lemmas: what keeps the format is at a
-- place if the bytes there begin with its spelling.
use Rattle.std.proofs.Common.{Bool, List, [], ap, arith, drop, false, length, map, nat_lt, suc, sym, take, true}
use Rattle.std.proofs.Common.{zero, ℕ, ◌*◌, ◌++◌, ◌<◌, ◌^◌, ◌∙◌, ◌∷◌, ◌≡◌}
use Rattle.std.specs.List.{AllByRecursion}
use Rattle.std.specs.Prelude.{slice_index, ◌&&◌, ◌==◌}
use Rattle.std.proofs.lemmas.Bool.{and_parts, eqb-true, ltb-true}
use Rattle.std.proofs.lemmas.List.{take-append-drop}
use Rattle.hprof_grammar.specs.Record.{HasParts, IsRecord, Record, body_of, record_spelling, tag_of, time_of}
use Rattle.hprof_grammar.specs.Record.Record.{heap, load_class, other, string}
use Rattle.hprof_grammar.specs.Spelling.{Field, Fits, IsAllowed}
use Rattle.hprof_grammar.specs.Spelling.Field.{number, raw, type_code}
use Rattle.hprof_grammar.specs.Standing.{RecordStands, Sight, Stands}
use Rattle.hprof_grammar.specs.SubRecord.{HasSizes, IsSubRecord, Root, SubRecord, fields_of, spelling_of}
use Rattle.hprof_grammar.specs.SubRecord.SubRecord.{class_dump, primitive_array_dump, root}
use Rattle.hprof_grammar.specs.TagsAndTypes.{is_type_at, size_of}
use Rattle.hprof_grammar.specs.Record.{is_heap_tag, is_length_of}
use Rattle.hprof_grammar.proofs.TableLaws.{tag_known}

abbrev every : {A : Type 0} → (A → Bool) → List A → Bool
every test [] = true
every test (x ∷ xs) = test x && every test xs

every_holds : {A : Type 0} (P : A → Type 0) (test : A → Bool) → ((x : A) → test x ≡ true → P x) → (xs : List A)
    → every test xs ≡ true → AllByRecursion P xs
every_holds P test holds [] e = tt
every_holds P test holds (x ∷ xs) e =
    let both = and_parts (test x) (every test xs) e in
    (holds x both.0, every_holds P test holds xs both.1)

-- ---- sub-records

abbrev is_right : Field → Bool
is_right (number width value) = nat_lt value (256 ^ width)
is_right (type_code place code) = is_type_at place code
is_right (raw bytes) = true

right_fits : (f : Field) → is_right f ≡ true → Fits f
right_fits (number width value) e = ltb-true value (256 ^ width) e
right_fits f e = tt

right_allowed : (f : Field) → is_right f ≡ true → IsAllowed f
right_allowed (type_code place code) e = e
right_allowed f e = tt

abbrev are_sized : ℕ → SubRecord → Bool
are_sized s (class_dump c) =
    every (λ k. length k.value == size_of s k.type) c.constants
    && every (λ f. length f.value == size_of s f.type) c.statics
are_sized s (primitive_array_dump a) = length a.values == a.count * size_of s a.type
are_sized s x = true

sized : (s : ℕ) (x : SubRecord) → are_sized s x ≡ true → HasSizes s x
sized s (class_dump c) e =
    let constants = every (λ k. length k.value == size_of s k.type) c.constants in
    let both = and_parts constants (every (λ f. length f.value == size_of s f.type) c.statics) e in (
      every_holds _ _ (λ k. eqb-true (length k.value) (size_of s k.type)) c.constants both.0,
      every_holds _ _ (λ f. eqb-true (length f.value) (size_of s f.type)) c.statics both.1,
    )
sized s (primitive_array_dump a) e = eqb-true (length a.values) (a.count * size_of s a.type) e
sized s x e = tt

abbrev pub is_sub : ℕ → SubRecord → Bool
is_sub s x = every is_right (fields_of s x) && are_sized s x

pub sub_is : (s : ℕ) (x : SubRecord) → is_sub s x ≡ true → IsSubRecord s x
sub_is s x e =
    let fields = fields_of s x in
    let both = and_parts (every is_right fields) (are_sized s x) e in
    record {
      formed = record {
        tag = tag_known x;
        numbers = every_holds Fits is_right right_fits fields both.0;
        sizes = sized s x both.1;
      };
      allowed = every_holds IsAllowed is_right right_allowed fields both.0;
    }

-- ---- records, without those that are skipped

abbrev has_parts : ℕ → Record → Bool
has_parts s (string time id text) = nat_lt id (256 ^ s)
has_parts s (load_class time serial class stack name) =
    nat_lt serial (256 ^ 4) && (nat_lt class (256 ^ s) && (nat_lt stack (256 ^ 4) && nat_lt name (256 ^ s)))
has_parts s (heap tag time subs) = is_heap_tag tag && every (is_sub s) subs
has_parts s (other tag time body) = false

parts_are : (s : ℕ) (r : Record) → has_parts s r ≡ true → HasParts s r
parts_are s (string time id text) e = ltb-true id (256 ^ s) e
parts_are s (load_class time serial class stack name) e =
    let first = and_parts (nat_lt serial (256 ^ 4))
    (nat_lt class (256 ^ s) && (nat_lt stack (256 ^ 4) && nat_lt name (256 ^ s))) e in
    let second = and_parts (nat_lt class (256 ^ s)) (nat_lt stack (256 ^ 4) && nat_lt name (256 ^ s)) first.1 in
    let third = and_parts (nat_lt stack (256 ^ 4)) (nat_lt name (256 ^ s)) second.1 in (
      ltb-true serial (256 ^ 4) first.0,
      ltb-true class (256 ^ s) second.0,
      ltb-true stack (256 ^ 4) third.0,
      ltb-true name (256 ^ s) third.1,
    )
parts_are s (heap tag time subs) e =
    let both = and_parts (is_heap_tag tag) (every (is_sub s) subs) e in
    (both.0, every_holds (IsSubRecord s) (is_sub s) (sub_is s) subs both.1)
parts_are s (other tag time body) e = absurd (cc)

abbrev is_framed : ℕ → Record → Bool
is_framed s r =
    nat_lt (time_of r) (256 ^ 4)
    && (nat_lt (length (body_of s r)) (256 ^ 4) && is_length_of s (tag_of r) (length (body_of s r)))

abbrev pub is_record : ℕ → Record → Bool
is_record s r = has_parts s r && is_framed s r

pub record_is : (s : ℕ) (r : Record) → is_record s r ≡ true → IsRecord s r
record_is s r e =
    let size = length (body_of s r) in
    let first = and_parts (has_parts s r) (is_framed s r) e in
    let second = and_parts (nat_lt (time_of r) (256 ^ 4)) (nat_lt size (256 ^ 4) && is_length_of s (tag_of r) size)
    first.1 in
    let third = and_parts (nat_lt size (256 ^ 4)) (is_length_of s (tag_of r) size) second.1 in
    record {
      parts = parts_are s r first.0;
      time = ltb-true (time_of r) (256 ^ 4) second.0;
      length_fits = ltb-true size (256 ^ 4) third.0;
      length_allowed = third.1;
    }

-- ---- the part at a place

-- the bytes from `at` on begin with `xs`
abbrev pub Begin : List ℕ → ℕ → List ℕ → Type 0
Begin bytes at xs = take (length xs) (drop at bytes) ≡ xs

pub parted : (bytes : List ℕ) (at : ℕ) (xs : List ℕ) → Begin bytes at xs
    → drop at bytes ≡ xs ++ drop (length xs) (drop at bytes)
parted bytes at xs e =
    let rest = drop (length xs) (drop at bytes) in
    sym (take-append-drop (length xs) (drop at bytes)) ∙ ap (λ (l : List ℕ). l ++ rest) e

pub seen : {bytes : List ℕ} {s at : ℕ} {x : SubRecord} (v : Sight) → v.bytes ≡ bytes → v.id_size ≡ s
    → is_sub s x ≡ true → Begin bytes at (spelling_of s x) → Stands v at x
seen {bytes} {s} {at} {x} v b i is e = rw (b, i) (record {
  rest = drop (length (spelling_of s x)) (drop at bytes);
  bytes_are = parted bytes at (spelling_of s x) e;
  is = sub_is s x is;
})

pub record_seen : {bytes : List ℕ} {s at : ℕ} {r : Record} (v : Sight) → v.bytes ≡ bytes → v.id_size ≡ s
    → is_record s r ≡ true → Begin bytes at (record_spelling s r) → RecordStands v at r
record_seen {bytes} {s} {at} {r} v b i is e = rw (b, i) (record {
  rest = drop (length (record_spelling s r)) (drop at bytes);
  bytes_are = parted bytes at (record_spelling s r) e;
  is = record_is s r is;
})

-- each of `roots` keeps the format, and its spelling is in the bytes at its place
abbrev pub AreThere : ℕ → List ℕ → List (ℕ × Root) → Type 0
AreThere s bytes roots = AllByRecursion (λ p. (is_sub s (root p.1) ≡ true) × Begin bytes p.0 (spelling_of s (root p.1)))
    roots

pub roots_seen : {bytes : List ℕ} {s : ℕ} (v : Sight) → v.bytes ≡ bytes → v.id_size ≡ s → (roots : List (ℕ × Root))
    → AreThere s bytes roots → (k : ℕ) → k < length roots
    → (r : Root) × Stands v (slice_index (map (λ p. p.0) roots) k) (root r)
roots_seen v b i [] there k below = absurd (omega arith)
roots_seen v b i (p ∷ roots) there zero below = (p.1, seen v b i there.0.0 there.0.1)
roots_seen v b i (p ∷ roots) there (suc k) below = roots_seen v b i roots there.1 k (omega arith)
