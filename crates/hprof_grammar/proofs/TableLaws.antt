-- The few facts of the format's tables that proofs use.
use Rattle.hprof_grammar.proofs.Words.{Bool, Kind, None, Option, RootKind, RootOrigin, Some, SubRecord, ap, arith}
use Rattle.hprof_grammar.proofs.Words.{class_dump, false, instance_dump, is_heap_tag, is_object, nat_le, nat_tests}
use Rattle.hprof_grammar.proofs.Words.{object_array_dump, origin_kind, origin_tag, primitive_array_dump, refl, root}
use Rattle.hprof_grammar.proofs.Words.{root_of, root_tag, sub_kind, sym, true, unknown, ℕ, ◌&&◌, ◌*◌, ◌+◌, ◌<◌, ◌==◌}
use Rattle.hprof_grammar.proofs.Words.{◌^◌, ◌||◌, ◌∙◌, ◌≡◌, ◌≤◌}
use Rattle.hprof_grammar.specs.TagsAndTypes.{is_id_size, is_sub_tag}
use Rattle.hprof_grammar.specs.Record.{is_length_of}
use Rattle.hprof_grammar.specs.Kinds.{kind_of, root_kind}
use Rattle.hprof_grammar.specs.ObjectKinds.{object_kind}
use Rattle.hprof_grammar.specs.SubRecord.{tag_of}
use Rattle.hprof_grammar.specs.declared.kinds.Kind.TheVariants.{Object, Root}
use Rattle.hprof_grammar.specs.declared.kinds.ObjectKind.{ObjectKind}
use Rattle.hprof_grammar.specs.declared.kinds.ObjectKind.TheVariants.{Class, Instance, ObjectArray, PrimitiveArray}
use Rattle.hprof_grammar.specs.declared.kinds.RootKind.TheVariants as roots

-- ---- identifiers have 4 or 8 bytes

pub id_size_low : (s : ℕ) → is_id_size s ≡ true → 1 ≤ s
unfolding is_id_size
id_size_low s h = grind (arith, nat_tests)

pub id_size_high : (s : ℕ) → is_id_size s ≡ true → s ≤ 8
unfolding is_id_size
id_size_high s h = grind (arith, nat_tests)

pub is_id_size-lt : (s : ℕ) → is_id_size s ≡ true → s < 256 ^ 4
is_id_size-lt s h = let high = id_size_high s h in omega arith

-- ---- a heap dump may have any length

pub heap_length : (s tag n : ℕ) → is_heap_tag tag ≡ true → is_length_of s tag n ≡ true
unfolding is_length_of
heap_length s tag n h = grind (arith, nat_tests)

-- ---- a kind of object has only one tag

root_is : (r : Option RootKind) (kind : Kind) → root_of r ≡ Some kind → (k : RootKind) × (kind ≡ Root k)
root_is None kind e = absurd (cc)
root_is (Some k) kind e = (k, cc)

pub class_tag : (tag : ℕ) → kind_of tag ≡ Some (Object Class) → tag ≡ 0x20
unfolding kind_of
class_tag tag h = grind (arith, nat_tests, root_is (root_kind tag) (Object Class))

pub instance_tag : (tag : ℕ) → kind_of tag ≡ Some (Object Instance) → tag ≡ 0x21
unfolding kind_of
instance_tag tag h = grind (arith, nat_tests, root_is (root_kind tag) (Object Instance))

pub object_array_tag : (tag : ℕ) → kind_of tag ≡ Some (Object ObjectArray) → tag ≡ 0x22
unfolding kind_of
object_array_tag tag h = grind (arith, nat_tests, root_is (root_kind tag) (Object ObjectArray))

pub primitive_array_tag : (tag : ℕ) → kind_of tag ≡ Some (Object PrimitiveArray) → tag ≡ 0x23
unfolding kind_of
primitive_array_tag tag h = grind (arith, nat_tests, root_is (root_kind tag) (Object PrimitiveArray))

-- ---- a kind of root has only one tag

root_found : (r : Option RootKind) (kind : RootKind) → root_of r ≡ Some (Root kind) → r ≡ Some kind
root_found None kind e = absurd (cc)
root_found (Some k) kind e = cc

root_kind_found : (tag : ℕ) (kind : RootKind) → kind_of tag ≡ Some (Root kind) → root_kind tag ≡ Some kind
unfolding kind_of
root_kind_found tag kind h = grind (arith, nat_tests, root_found (root_kind tag) kind)

tag_of_kind : (tag : ℕ) (kind : RootKind) → root_kind tag ≡ Some kind → tag ≡ root_tag kind
unfolding root_kind
tag_of_kind tag roots.Unknown h = grind (arith, nat_tests)
tag_of_kind tag kind h = grind (arith, nat_tests)

pub root_tag_is : (tag : ℕ) (kind : RootKind) → kind_of tag ≡ Some (Root kind) → tag ≡ root_tag kind
root_tag_is tag kind h = tag_of_kind tag kind (root_kind_found tag kind h)

-- ---- the tag of a sub-record says its kind

root_says : (o : RootOrigin) → kind_of (origin_tag o) ≡ Some (Root (origin_kind o))
unfolding kind_of root_kind
root_says unknown = refl
root_says o = refl

pub kind_says : (x : SubRecord) → kind_of (tag_of x) ≡ Some (sub_kind x)
unfolding kind_of
kind_says (root r) = root_says r.origin
kind_says x = refl

-- the kind of a sub-record that describes an object is that of the object
pub kind_described : (x : SubRecord) → is_object x ≡ true
    → (kind : ObjectKind) × (sub_kind x ≡ Object kind) × (object_kind x ≡ Some kind)
kind_described (root r) describes = absurd (cc describes)
kind_described (class_dump c) describes = (Class, refl, refl)
kind_described (instance_dump i) describes = (Instance, refl, refl)
kind_described (object_array_dump a) describes = (ObjectArray, refl, refl)
kind_described (primitive_array_dump a) describes = (PrimitiveArray, refl, refl)

-- ---- the tags of sub-records are those that say a kind

no_root_kind : (tag : ℕ) → is_sub_tag tag ≡ false → root_kind tag ≡ None
unfolding is_sub_tag root_kind
no_root_kind tag h = grind (arith, nat_tests)

pub no_kind : (tag : ℕ) → is_sub_tag tag ≡ false → kind_of tag ≡ None
unfolding is_sub_tag kind_of
no_kind tag h = grind (arith, nat_tests, ap root_of (no_root_kind tag h))

no_root : (r : Option RootKind) → root_of r ≡ None → r ≡ None
no_root None e = refl
no_root (Some kind) e = absurd (cc)

no_root_tag : (tag : ℕ) → root_kind tag ≡ None → ((tag == 0xFF) || (nat_le 1 tag && nat_le tag 8)) ≡ false
unfolding root_kind
no_root_tag tag h = grind (arith, nat_tests)

pub no_sub_tag : (tag : ℕ) → kind_of tag ≡ None → is_sub_tag tag ≡ false
unfolding is_sub_tag kind_of
no_sub_tag tag h = grind (arith, nat_tests, no_root (root_kind tag), no_root_tag tag)

pub tag_known : (x : SubRecord) → is_sub_tag (tag_of x) ≡ true
tag_known x = by (is_sub_tag (tag_of x)) refl
  where
    by : (t : Bool) → is_sub_tag (tag_of x) ≡ t → is_sub_tag (tag_of x) ≡ true
    by true e = e
    by false e = absurd (let both = sym (kind_says x) ∙ no_kind (tag_of x) e in cc)

-- ---- the lengths of the records whose body is read

pub string_length : (s n : ℕ) → is_length_of s 0x01 n ≡ true → s ≤ n
unfolding is_length_of
string_length s n h = grind (arith, nat_tests)

pub load_length : (s n : ℕ) → is_length_of s 0x02 n ≡ true → n ≡ 8 + 2 * s
unfolding is_length_of
load_length s n h = grind (arith, nat_tests)
