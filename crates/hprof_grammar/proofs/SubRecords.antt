-- Sub-records: what is read was spelled, what is spelled is read, and a flaw shows the fault.
use Rattle.hprof_grammar.proofs.Words.{AreAllowed, Err, Field, Flaw, HasBounds, IsClass, IsFormed, IsInstance}
use Rattle.hprof_grammar.proofs.Words.{IsObjectArray, IsOrigin, IsPrimitiveArray, IsRoot, IsSubRecord, Kind, List, None}
use Rattle.hprof_grammar.proofs.Words.{Ok, Option, Result, RootKind, RootOrigin, Short, Some, SubFault, SubRecord}
use Rattle.hprof_grammar.proofs.Words.{UnknownTag, WrongType, [], ap, arith, as_at, body_at, class_dump, class_dump_at}
use Rattle.hprof_grammar.proofs.Words.{class_fields, false, fields_of, flaw_code, instance_at, instance_dump}
use Rattle.hprof_grammar.proofs.Words.{instance_fields, is_sub_tag, java_frame, jni_global, jni_local, kind_of, length}
use Rattle.hprof_grammar.proofs.Words.{lone_root, monitor_used, native_stack, number, number_at, numbers_at}
use Rattle.hprof_grammar.proofs.Words.{object_array_at, object_array_dump, object_array_fields, origin_fields}
use Rattle.hprof_grammar.proofs.Words.{origin_kind, origin_tag, primitive_array_at, primitive_array_dump}
use Rattle.hprof_grammar.proofs.Words.{primitive_array_fields, refl, root, root_at, root_tag, root_with, root_with_two}
use Rattle.hprof_grammar.proofs.Words.{short, spelled, spelling_of, sticky_class, sub_kind, subst, sym, then_at}
use Rattle.hprof_grammar.proofs.Words.{thread_block, thread_object, unknown, unknown_tag, wrong_type, ℕ, ◌++◌, ◌<◌, ◌^◌}
use Rattle.hprof_grammar.proofs.Words.{◌∙◌, ◌∷◌, ◌≡◌}
use Rattle.hprof_grammar.specs.working.Reading.{sub_record_at}
use Rattle.hprof_grammar.specs.SubRecord.{tag_of}
use Rattle.hprof_grammar.proofs.FormedPartsLaws.{bounds, formed_by}
use Rattle.hprof_grammar.proofs.Bytes.{IsBytes, bytes-tail}
use Rattle.hprof_grammar.proofs.Fields.{Breaks, breaks_short, breaks_wrong, ends_short, has_wrong_type}
use Rattle.hprof_grammar.proofs.Format.{IsFormat, bind_ok, map_err, number_format, ok_same}
use Rattle.hprof_grammar.proofs.PartFormats.{class_format, instance_format, object_array_format, primitive_array_format}
use Rattle.hprof_grammar.proofs.PartFormats.{three_numbers, two_numbers}
use Rattle.hprof_grammar.proofs.TableLaws.{class_tag, instance_tag, kind_says, no_kind, no_sub_tag, object_array_tag}
use Rattle.hprof_grammar.proofs.TableLaws.{primitive_array_tag, root_tag_is, tag_known}
use Rattle.hprof_grammar.specs.declared.kinds.RootKind.TheVariants as roots
use Rattle.hprof_grammar.specs.declared.kinds.Kind.TheVariants as kinds
use Rattle.hprof_grammar.specs.declared.kinds.ObjectKind.TheVariants as objects

-- a whole sub-record was taken from the bytes
pub record SubTaken (s : ℕ) (bytes : List ℕ) (sub : SubRecord) (rest : List ℕ) : Type 0 where
  pub is : IsSubRecord s sub
  pub bytes_are : bytes ≡ spelling_of s sub ++ rest

-- a formed sub-record with this tag, whose type codes may be any, breaks off after the tag
abbrev pub SubBreaks : ℕ → ℕ → List ℕ → Flaw → Type 0
SubBreaks s tag rest flaw = (x : SubRecord) × IsFormed s x × (tag_of x ≡ tag) × Breaks flaw (fields_of s x) rest

-- ---- one kind of sub-record after its tag

-- what is read was spelled, and a flaw shows where a sub-record breaks off
record ReadsKind (s tag : ℕ) (read : List ℕ → Result (SubRecord × List ℕ) Flaw) : Type 0 where
  takes : (rest : List ℕ) (z : SubRecord × List ℕ) → IsBytes rest → read rest ≡ Ok z → SubTaken s (tag ∷ rest) z.0 z.1
  fails : (rest : List ℕ) (flaw : Flaw) → IsBytes rest → read rest ≡ Err flaw → SubBreaks s tag rest flaw

-- a sub-record that is spelled is read, and so is the flaw where it breaks off
record ReadsBack (s : ℕ) (x : SubRecord) (read : List ℕ → Result (SubRecord × List ℕ) Flaw) : Type 0 where
  again : (rest : List ℕ) → AreAllowed (fields_of s x) → read (spelled (fields_of s x) ++ rest) ≡ Ok (x, rest)
  fails_again : (rest : List ℕ) (flaw : Flaw) → Breaks flaw (fields_of s x) rest → read rest ≡ Err flaw

-- the kind has the fields of a format
record KindFormat {A : Type 0} (s tag : ℕ) (make : A → SubRecord) (W : A → Type 0) (F : A → List Field)
    (read : List ℕ → Result (A × List ℕ) Flaw) : Type 0 where
  under : IsFormat W F read
  fields_are : (a : A) → fields_of s (make a) ≡ F a
  in_bounds : (a : A) → W a → HasBounds s (make a)
  tag_is : (a : A) → W a → tag_of (make a) ≡ tag

module _ {A : Type 0} {s tag : ℕ} {make : A → SubRecord} {W : A → Type 0} {F : A → List Field}
    {r : List ℕ → Result (A × List ℕ) Flaw} (k : KindFormat s tag make W F r) where
  kind_takes : (rest : List ℕ) (z : SubRecord × List ℕ) → IsBytes rest → as_at make r rest ≡ Ok z
      → SubTaken s (tag ∷ rest) z.0 z.1
  kind_takes rest z h e =
      let a = bind_ok (r rest) (λ x. Ok (make x.0, x.1)) z e in
      let t = k.under.takes rest a.0 h a.1 in
      let f = k.fields_are a.0.0 in
      let formed = formed_by (tag_known (make a.0.0)) (k.in_bounds a.0.0 t.well) in
      rw (← ok_same {E = Flaw} (make a.0.0, a.0.1) z a.2) (record {
        is = record { formed = formed; allowed = rw f t.allowed };
        bytes_are = rw (k.tag_is a.0.0 t.well, f) (ap (λ (x : List ℕ). tag ∷ x) t.bytes_are);
      })

  kind_fails : (rest : List ℕ) (flaw : Flaw) → IsBytes rest → as_at make r rest ≡ Err flaw → SubBreaks s tag rest flaw
  kind_fails rest flaw h e =
      let a = k.under.fails rest flaw h (map_err (r rest) (λ x. (make x.0, x.1)) flaw e) in
      let formed : IsFormed s (make a.0) = formed_by (tag_known (make a.0)) (k.in_bounds a.0 a.1) in
      (make a.0, formed, k.tag_is a.0 a.1, rw (k.fields_are a.0) a.2)

  read_kind : ReadsKind s tag (as_at make r)
  read_kind = record { takes = kind_takes; fails = kind_fails }

  kind_again : (a : A) (rest : List ℕ) → W a → AreAllowed (fields_of s (make a))
      → as_at make r (spelled (fields_of s (make a)) ++ rest) ≡ Ok (make a, rest)
  kind_again a rest h allowed =
      let ok : AreAllowed (F a) = subst AreAllowed (k.fields_are a) allowed in
      rw (k.fields_are a) (rw (k.under.again a rest h ok) refl)

  kind_fails_again : (a : A) (rest : List ℕ) (flaw : Flaw) → W a → Breaks flaw (fields_of s (make a)) rest
      → as_at make r rest ≡ Err flaw
  kind_fails_again a rest flaw h b =
      let breaks = subst (λ (x : List Field). Breaks flaw x rest) (k.fields_are a) b in
      rw (k.under.fails_again a rest flaw h breaks) refl

  read_back : (a : A) → W a → ReadsBack s (make a) (as_at make r)
  read_back a h = record {
    again = λ rest allowed. kind_again a rest h allowed;
    fails_again = λ rest flaw b. kind_fails_again a rest flaw h b;
  }

-- ---- roots, by the number of numbers after the object

no_number : (s tag : ℕ) (o : RootOrigin) → origin_fields s o ≡ [] → IsOrigin s o → tag ≡ origin_tag o
    → KindFormat s tag (lone_root o) (λ n. n < 256 ^ s) (λ n. number s n ∷ []) (number_at s)
no_number s tag o fields is t = record {
  under = number_format s;
  fields_are = λ n. ap (λ (more : List Field). number s n ∷ more) fields;
  in_bounds = λ n h. record { object = h; origin = is };
  tag_is = λ n h. sym t;
}

one_number : (s tag w : ℕ) (o : ℕ → RootOrigin) → ((n : ℕ) → origin_fields s (o n) ≡ number w n ∷ [])
    → ((n : ℕ) → n < 256 ^ w → IsOrigin s (o n)) → ((n : ℕ) → tag ≡ origin_tag (o n))
    → KindFormat s tag (root_with o) (λ p. (p.0 < 256 ^ s) × (p.1 < 256 ^ w))
    (λ p. number s p.0 ∷ number w p.1 ∷ []) (numbers_at s w)
one_number s tag w o fields is t = record {
  under = two_numbers s w;
  fields_are = λ p. ap (λ (more : List Field). number s p.0 ∷ more) (fields p.1);
  in_bounds = λ p h. record { object = h.0; origin = is p.1 h.1 };
  tag_is = λ p h. sym (t p.1);
}

two_more : (s tag : ℕ) (o : ℕ → ℕ → RootOrigin)
    → ((m n : ℕ) → origin_fields s (o m n) ≡ number 4 m ∷ number 4 n ∷ [])
    → ((m n : ℕ) → (m < 256 ^ 4) × (n < 256 ^ 4) → IsOrigin s (o m n)) → ((m n : ℕ) → tag ≡ origin_tag (o m n))
    → KindFormat s tag (root_with_two o) (λ p. (p.0 < 256 ^ s) × ((p.1.0 < 256 ^ 4) × (p.1.1 < 256 ^ 4)))
    (λ p. number s p.0 ∷ number 4 p.1.0 ∷ number 4 p.1.1 ∷ []) (then_at (number_at s) (λ _. numbers_at 4 4))
two_more s tag o fields is t = record {
  under = three_numbers s;
  fields_are = λ p. ap (λ (more : List Field). number s p.0 ∷ more) (fields p.1.0 p.1.1);
  in_bounds = λ p h. record { object = h.0; origin = is p.1.0 p.1.1 h.1 };
  tag_is = λ p h. sym (t p.1.0 p.1.1);
}

root_read : (s tag : ℕ) (kind : RootKind) → tag ≡ root_tag kind → ReadsKind s tag (root_at s kind)
root_read s tag roots.Unknown t = read_kind (no_number s tag unknown refl tt t)
root_read s tag roots.JniGlobal t = read_kind (one_number s tag s jni_global (λ n. refl) (λ n h. h) (λ n. t))
root_read s tag roots.JniLocal t = read_kind (two_more s tag jni_local (λ m n. refl) (λ m n h. h) (λ m n. t))
root_read s tag roots.JavaFrame t = read_kind (two_more s tag java_frame (λ m n. refl) (λ m n h. h) (λ m n. t))
root_read s tag roots.NativeStack t = read_kind (one_number s tag 4 native_stack (λ n. refl) (λ n h. h) (λ n. t))
root_read s tag roots.StickyClass t = read_kind (no_number s tag sticky_class refl tt t)
root_read s tag roots.ThreadBlock t = read_kind (one_number s tag 4 thread_block (λ n. refl) (λ n h. h) (λ n. t))
root_read s tag roots.MonitorUsed t = read_kind (no_number s tag monitor_used refl tt t)
root_read s tag roots.ThreadObject t = read_kind (two_more s tag thread_object (λ m n. refl) (λ m n h. h) (λ m n. t))

root_back : (s object : ℕ) (o : RootOrigin) → IsRoot s (record { object = object; origin = o })
    → ReadsBack s (root (record { object = object; origin = o })) (root_at s (origin_kind o))
root_back s object unknown is = read_back (no_number s 0xFF unknown refl tt refl) object is.object
root_back s object (jni_global reference) is =
    read_back (one_number s 1 s jni_global (λ n. refl) (λ n h. h) (λ n. refl)) (object, reference)
    (is.object, is.origin)
root_back s object (jni_local thread frame) is =
    read_back (two_more s 2 jni_local (λ m n. refl) (λ m n h. h) (λ m n. refl)) (object, (thread, frame))
    (is.object, is.origin)
root_back s object (java_frame thread frame) is =
    read_back (two_more s 3 java_frame (λ m n. refl) (λ m n h. h) (λ m n. refl)) (object, (thread, frame))
    (is.object, is.origin)
root_back s object (native_stack thread) is =
    read_back (one_number s 4 4 native_stack (λ n. refl) (λ n h. h) (λ n. refl)) (object, thread) (is.object, is.origin)
root_back s object sticky_class is = read_back (no_number s 5 sticky_class refl tt refl) object is.object
root_back s object (thread_block thread) is =
    read_back (one_number s 6 4 thread_block (λ n. refl) (λ n h. h) (λ n. refl)) (object, thread) (is.object, is.origin)
root_back s object monitor_used is = read_back (no_number s 7 monitor_used refl tt refl) object is.object
root_back s object (thread_object thread stack) is =
    read_back (two_more s 8 thread_object (λ m n. refl) (λ m n h. h) (λ m n. refl)) (object, (thread, stack))
    (is.object, is.origin)

-- ---- any sub-record

class_kind : (s tag : ℕ) → tag ≡ 0x20 → KindFormat s tag class_dump (IsClass s) (class_fields s) (class_dump_at s)
class_kind s tag t =
    record { under = class_format s; fields_are = λ c. refl; in_bounds = λ c h. h; tag_is = λ c h. sym t }

instance_kind : (s tag : ℕ) → tag ≡ 0x21
    → KindFormat s tag instance_dump (IsInstance s) (instance_fields s) (instance_at s)
instance_kind s tag t =
    record { under = instance_format s; fields_are = λ i. refl; in_bounds = λ i h. h; tag_is = λ i h. sym t }

object_array_kind : (s tag : ℕ) → tag ≡ 0x22
    → KindFormat s tag object_array_dump (IsObjectArray s) (object_array_fields s) (object_array_at s)
object_array_kind s tag t =
    record { under = object_array_format s; fields_are = λ a. refl; in_bounds = λ a h. h; tag_is = λ a h. sym t }

primitive_array_kind : (s tag : ℕ) → tag ≡ 0x23
    → KindFormat s tag primitive_array_dump (IsPrimitiveArray s) (primitive_array_fields s) (primitive_array_at s)
primitive_array_kind s tag t =
    record { under = primitive_array_format s; fields_are = λ a. refl; in_bounds = λ a h. h; tag_is = λ a h. sym t }

body_read : (s tag : ℕ) (kind : Kind) → kind_of tag ≡ Some kind → ReadsKind s tag (body_at s (Some kind))
body_read s tag (kinds.Root kind) k = root_read s tag kind (root_tag_is tag kind k)
body_read s tag (kinds.Object objects.Class) k = read_kind (class_kind s tag (class_tag tag k))
body_read s tag (kinds.Object objects.Instance) k = read_kind (instance_kind s tag (instance_tag tag k))
body_read s tag (kinds.Object objects.ObjectArray) k = read_kind (object_array_kind s tag (object_array_tag tag k))
body_read s tag (kinds.Object objects.PrimitiveArray) k =
    read_kind (primitive_array_kind s tag (primitive_array_tag tag k))

sub_back : (s : ℕ) (x : SubRecord) → IsFormed s x → ReadsBack s x (body_at s (Some (sub_kind x)))
sub_back s (root r) h = root_back s r.object r.origin (bounds h)
sub_back s (class_dump c) h = read_back (class_kind s 0x20 refl) c (bounds h)
sub_back s (instance_dump i) h = read_back (instance_kind s 0x21 refl) i (bounds h)
sub_back s (object_array_dump a) h = read_back (object_array_kind s 0x22 refl) a (bounds h)
sub_back s (primitive_array_dump a) h = read_back (primitive_array_kind s 0x23 refl) a (bounds h)

body_takes : (s tag : ℕ) (kind : Option Kind) (rest : List ℕ) (z : SubRecord × List ℕ) → kind_of tag ≡ kind
    → IsBytes rest → body_at s kind rest ≡ Ok z → SubTaken s (tag ∷ rest) z.0 z.1
body_takes s tag None rest z k h e = absurd (cc)
body_takes s tag (Some kind) rest z k h e = (body_read s tag kind k).takes rest z h e

-- what is read was spelled
pub sub_takes : (s : ℕ) (bytes : List ℕ) (z : SubRecord × List ℕ) → IsBytes bytes → sub_record_at s bytes ≡ Ok z
    → SubTaken s bytes z.0 z.1
unfolding sub_record_at
sub_takes s [] z h e = absurd (cc)
sub_takes s (tag ∷ rest) z h e = body_takes s tag (kind_of tag) rest z refl (bytes-tail tag rest h) e

-- what is spelled is read
pub sub_again : (s : ℕ) (x : SubRecord) (rest : List ℕ) → IsSubRecord s x
    → sub_record_at s (spelling_of s x ++ rest) ≡ Ok (x, rest)
unfolding sub_record_at
sub_again s x rest h = rw (kind_says x) ((sub_back s x h.formed).again rest h.allowed)

-- ---- flaws

break_fault : (s tag : ℕ) (rest : List ℕ) (flaw : Flaw) → SubBreaks s tag rest flaw
    → SubFault s (tag ∷ rest) (flaw_code flaw)
break_fault s tag rest Short b =
    subst (λ (t : ℕ). SubFault s (t ∷ rest) 6) b.2 (short b.0 rest b.1 (ends_short (fields_of s b.0) rest b.3))
break_fault s tag rest WrongType b =
    subst (λ (t : ℕ). SubFault s (t ∷ rest) 7) b.2 (wrong_type b.0 rest b.1 (has_wrong_type (fields_of s b.0) rest b.3))
break_fault s tag rest UnknownTag b = absurd b.3.spoiled

kind_fault : (s tag : ℕ) (kind : Option Kind) (rest : List ℕ) (flaw : Flaw) → kind_of tag ≡ kind → IsBytes rest
    → body_at s kind rest ≡ Err flaw → SubFault s (tag ∷ rest) (flaw_code flaw)
kind_fault s tag None rest flaw k h e =
    let same : UnknownTag ≡ flaw = cc in
    subst (λ (f : Flaw). SubFault s (tag ∷ rest) (flaw_code f)) same (unknown_tag tag rest (no_sub_tag tag k))
kind_fault s tag (Some kind) rest flaw k h e =
    break_fault s tag rest flaw ((body_read s tag kind k).fails rest flaw h e)

-- a flaw shows the fault
pub sub_fails : (s : ℕ) (bytes : List ℕ) (flaw : Flaw) → 0 < length bytes → IsBytes bytes
    → sub_record_at s bytes ≡ Err flaw → SubFault s bytes (flaw_code flaw)
unfolding sub_record_at
sub_fails s [] flaw some h e = absurd (omega arith)
sub_fails s (tag ∷ rest) flaw some h e = kind_fault s tag (kind_of tag) rest flaw refl (bytes-tail tag rest h) e

-- ---- a fault shows the flaw

body_fails_again : (s : ℕ) (x : SubRecord) (rest : List ℕ) (flaw : Flaw) → IsFormed s x
    → Breaks flaw (fields_of s x) rest → sub_record_at s (tag_of x ∷ rest) ≡ Err flaw
unfolding sub_record_at
body_fails_again s x rest flaw h b = rw (kind_says x) ((sub_back s x h).fails_again rest flaw b)

unknown_read : (s tag : ℕ) (rest : List ℕ) → is_sub_tag tag ≡ false → sub_record_at s (tag ∷ rest) ≡ Err UnknownTag
unfolding sub_record_at
unknown_read s tag rest h = rw (no_kind tag h) refl

fault_read : (s : ℕ) (bytes : List ℕ) (code : ℕ) → SubFault s bytes code → (flaw : Flaw)
    × (sub_record_at s bytes ≡ Err flaw) × (code ≡ flaw_code flaw)
fault_read s bytes code (unknown_tag tag rest h) = (UnknownTag, unknown_read s tag rest h, refl)
fault_read s bytes code (short x rest h b) =
    (Short, body_fails_again s x rest Short h (breaks_short (fields_of s x) rest b), refl)
fault_read s bytes code (wrong_type x rest h b) =
    (WrongType, body_fails_again s x rest WrongType h (breaks_wrong (fields_of s x) rest b), refl)

-- a place has at most one fault, and none if it has a sub-record
pub one_sub_fault : (s : ℕ) (bytes : List ℕ) (code other : ℕ) → SubFault s bytes code → SubFault s bytes other
    → code ≡ other
one_sub_fault s bytes code other h k =
    let a = fault_read s bytes code h in
    let b = fault_read s bytes other k in
    let same : a.0 ≡ b.0 = (let both : ◌≡◌ {A = Result (SubRecord × List ℕ) Flaw} (Err a.0) (Err b.0) = sym a.1
    ∙ b.1 in cc) in
    a.2 ∙ ap flaw_code same ∙ sym b.2

pub no_sub_fault : (s : ℕ) (x : SubRecord) (rest : List ℕ) (code : ℕ) → IsSubRecord s x
    → SubFault s (spelling_of s x ++ rest) code → ⊥
no_sub_fault s x rest code h k =
    let a = fault_read s (spelling_of s x ++ rest) code k in
    let both : ◌≡◌ {A = Result (SubRecord × List ℕ) Flaw} (Ok (x, rest)) (Err a.0) = sym (sub_again s x rest h) ∙ a.1 in
    cc

-- no spelling of a sub-record begins that of another
pub subs_determined : (s : ℕ) (x y : SubRecord) (rest more : List ℕ) → IsSubRecord s x → IsSubRecord s y
    → spelling_of s x ++ rest ≡ spelling_of s y ++ more → (x ≡ y) × (rest ≡ more)
subs_determined s x y rest more h k e =
    let both : ◌≡◌ {A = Result (SubRecord × List ℕ) Flaw} (Ok (x, rest)) (Ok (y, more)) = sym (sub_again s x rest h)
    ∙ ap (sub_record_at s) e ∙ sub_again s y more k in
    let pair : (x, rest) ≡ (y, more) = cc in
    (ap (λ (p : SubRecord × List ℕ). p.0) pair, ap (λ (p : SubRecord × List ℕ). p.1) pair)
