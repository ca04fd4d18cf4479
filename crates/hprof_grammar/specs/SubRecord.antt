-- The sub-records of a heap record, and their fields in the manual's order.
use Rattle.std.specs.Prelude.{List, [], flat_map, length, map, true, ℕ, ◌*◌, ◌++◌, ◌∷◌, ◌≡◌}
use Rattle.std.specs.List.{AllByRecursion}
use Rattle.hprof_grammar.specs.TagsAndTypes.{is_sub_tag, size_of}
use Rattle.hprof_grammar.specs.Spelling.{AreAllowed, Field, Fits, spelled}
use Rattle.hprof_grammar.specs.Spelling.Field.{number, raw, type_code}
use Rattle.hprof_grammar.specs.declared.kinds.TypePlace.TheVariants.{InArray, InConstant, InMember, InStatic}

-- a constant pool entry
pub record Constant : Type 0 where
  pub index : ℕ
  pub type : ℕ
  pub value : List ℕ

-- a static field
pub record Static : Type 0 where
  pub name : ℕ
  pub type : ℕ
  pub value : List ℕ

-- an instance field that a class declares
pub record Member : Type 0 where
  pub name : ℕ
  pub type : ℕ

-- CLASS DUMP, 0x20
pub record Class : Type 0 where
  pub object : ℕ
  pub stack : ℕ
  pub super : ℕ
  pub loader : ℕ
  pub signers : ℕ
  pub domain : ℕ
  pub reserved : ℕ
  pub reserved_too : ℕ
  pub instance_size : ℕ
  pub constants : List Constant
  pub statics : List Static
  pub members : List Member

-- INSTANCE DUMP, 0x21: the values are those of the class's own fields, then those of its superclass, and so on up
pub record Instance : Type 0 where
  pub object : ℕ
  pub stack : ℕ
  pub class : ℕ
  pub values : List ℕ

-- OBJECT ARRAY DUMP, 0x22
pub record ObjectArray : Type 0 where
  pub object : ℕ
  pub stack : ℕ
  pub class : ℕ
  pub elements : List ℕ

-- PRIMITIVE ARRAY DUMP, 0x23: `count` elements of one type, packed
pub record PrimitiveArray : Type 0 where
  pub object : ℕ
  pub stack : ℕ
  pub count : ℕ
  pub type : ℕ
  pub values : List ℕ

-- The reason why an object is a root, and what the sub-record says about that reason: a JNI reference by its ID,
-- threads and stack traces by their serial numbers, a frame by its number in the stack trace.
pub data RootOrigin : Type 0 where
  unknown : RootOrigin
  jni_global : (reference : ℕ) → RootOrigin
  jni_local : (thread frame : ℕ) → RootOrigin
  java_frame : (thread frame : ℕ) → RootOrigin
  native_stack : (thread : ℕ) → RootOrigin
  sticky_class : RootOrigin
  thread_block : (thread : ℕ) → RootOrigin
  monitor_used : RootOrigin
  thread_object : (thread stack : ℕ) → RootOrigin

-- ROOT, 0xFF or 0x01 to 0x08 by its reason
pub record Root : Type 0 where
  pub object : ℕ
  pub origin : RootOrigin

pub data SubRecord : Type 0 where
  root : Root → SubRecord
  class_dump : Class → SubRecord
  instance_dump : Instance → SubRecord
  object_array_dump : ObjectArray → SubRecord
  primitive_array_dump : PrimitiveArray → SubRecord

-- An ID is a number of s bytes, where s is the size of identifiers that the header states.

abbrev pub constant_fields : Constant → List Field
constant_fields c = number 2 c.index ∷ type_code InConstant c.type ∷ raw c.value ∷ []

abbrev pub static_fields : ℕ → Static → List Field
static_fields s f = number s f.name ∷ type_code InStatic f.type ∷ raw f.value ∷ []

abbrev pub member_fields : ℕ → Member → List Field
member_fields s m = number s m.name ∷ type_code InMember m.type ∷ []

-- the fields of each kind of sub-record after the tag
abbrev pub class_fields : ℕ → Class → List Field
class_fields s c =
    number s c.object ∷ number 4 c.stack ∷ number s c.super ∷ number s c.loader ∷ number s c.signers
    ∷ number s c.domain ∷ number s c.reserved ∷ number s c.reserved_too ∷ number 4 c.instance_size
    ∷ (number 2 (length c.constants) ∷ flat_map constant_fields c.constants)
    ++ ((number 2 (length c.statics) ∷ flat_map (static_fields s) c.statics)
    ++ (number 2 (length c.members) ∷ flat_map (member_fields s) c.members))

abbrev pub instance_fields : ℕ → Instance → List Field
instance_fields s i =
    number s i.object ∷ number 4 i.stack ∷ number s i.class ∷ number 4 (length i.values) ∷ raw i.values ∷ []

abbrev pub object_array_fields : ℕ → ObjectArray → List Field
object_array_fields s a =
    number s a.object ∷ number 4 a.stack ∷ number 4 (length a.elements) ∷ number s a.class ∷ map (number s) a.elements

abbrev pub primitive_array_fields : ℕ → PrimitiveArray → List Field
primitive_array_fields s a =
    number s a.object ∷ number 4 a.stack ∷ number 4 a.count ∷ type_code InArray a.type ∷ raw a.values ∷ []

abbrev pub origin_fields : ℕ → RootOrigin → List Field
origin_fields s unknown = []
origin_fields s (jni_global reference) = number s reference ∷ []
origin_fields s (jni_local thread frame) = number 4 thread ∷ number 4 frame ∷ []
origin_fields s (java_frame thread frame) = number 4 thread ∷ number 4 frame ∷ []
origin_fields s (native_stack thread) = number 4 thread ∷ []
origin_fields s sticky_class = []
origin_fields s (thread_block thread) = number 4 thread ∷ []
origin_fields s monitor_used = []
origin_fields s (thread_object thread stack) = number 4 thread ∷ number 4 stack ∷ []

abbrev pub root_fields : ℕ → Root → List Field
root_fields s r = number s r.object ∷ origin_fields s r.origin

-- the tag of a root: ROOT UNKNOWN, ROOT JNI GLOBAL, ROOT JNI LOCAL and so on
abbrev pub origin_tag : RootOrigin → ℕ
origin_tag unknown = 0xFF
origin_tag (jni_global reference) = 0x01
origin_tag (jni_local thread frame) = 0x02
origin_tag (java_frame thread frame) = 0x03
origin_tag (native_stack thread) = 0x04
origin_tag sticky_class = 0x05
origin_tag (thread_block thread) = 0x06
origin_tag monitor_used = 0x07
origin_tag (thread_object thread stack) = 0x08

abbrev pub tag_of : SubRecord → ℕ
tag_of (root r) = origin_tag r.origin
tag_of (class_dump c) = 0x20
tag_of (instance_dump i) = 0x21
tag_of (object_array_dump a) = 0x22
tag_of (primitive_array_dump a) = 0x23

-- the fields of a sub-record after its tag, in order
abbrev pub fields_of : ℕ → SubRecord → List Field
fields_of s (root r) = root_fields s r
fields_of s (class_dump c) = class_fields s c
fields_of s (instance_dump i) = instance_fields s i
fields_of s (object_array_dump a) = object_array_fields s a
fields_of s (primitive_array_dump a) = primitive_array_fields s a

-- The one spelling of a sub-record.
abbrev pub spelling_of : ℕ → SubRecord → List ℕ
spelling_of s sub = tag_of sub ∷ spelled (fields_of s sub)

-- Each value has the size that its type says; the values of a primitive array have `count` times that size.
abbrev pub HasSizes : ℕ → SubRecord → Type 0
HasSizes s (class_dump c) =
    AllByRecursion (λ k. length k.value ≡ size_of s k.type) c.constants
    × AllByRecursion (λ f. length f.value ≡ size_of s f.type) c.statics
HasSizes s (primitive_array_dump a) = length a.values ≡ a.count * size_of s a.type
HasSizes s sub = Unit {0}

-- a sub-record with any type codes: its tag is in the table, each number fits its bytes, and the values have their
-- sizes
pub record IsFormed (s : ℕ) (sub : SubRecord) : Type 0 where
  pub tag : is_sub_tag (tag_of sub) ≡ true
  pub numbers : AllByRecursion Fits (fields_of s sub)
  pub sizes : HasSizes s sub

-- A formed sub-record whose type codes are all allowed at their places.
pub record IsSubRecord (s : ℕ) (sub : SubRecord) : Type 0 where
  pub formed : IsFormed s sub
  pub allowed : AreAllowed (fields_of s sub)
