-- The bounds of a formed sub-record's numbers and values, field by field: each number fits its bytes, and each value
-- has the size that its type or its count says. Proofs use the bounds in this form. proofs/FormedPartsLaws.antt proves
-- that a sub-record keeps the bounds exactly if it is formed (`IsFormed`).
use Rattle.std.specs.Prelude.{length, ℕ, ◌*◌, ◌<◌, ◌^◌, ◌≡◌}
use Rattle.std.specs.List.{AllByRecursion}
use Rattle.hprof_grammar.specs.TagsAndTypes.{size_of}
use Rattle.hprof_grammar.specs.SubRecord.{Class, Constant, Instance, Member, ObjectArray, PrimitiveArray, Root}
use Rattle.hprof_grammar.specs.SubRecord.{RootOrigin, Static, SubRecord}
use Rattle.hprof_grammar.specs.SubRecord.RootOrigin.{java_frame, jni_global, jni_local, monitor_used, native_stack}
use Rattle.hprof_grammar.specs.SubRecord.RootOrigin.{sticky_class, thread_block, thread_object, unknown}
use Rattle.hprof_grammar.specs.SubRecord.SubRecord.{class_dump, instance_dump, object_array_dump}
use Rattle.hprof_grammar.specs.SubRecord.SubRecord.{primitive_array_dump, root}

pub record IsConstant (s : ℕ) (c : Constant) : Type 0 where
  pub index : c.index < 256 ^ 2
  pub value : length c.value ≡ size_of s c.type

pub record IsStatic (s : ℕ) (f : Static) : Type 0 where
  pub name : f.name < 256 ^ s
  pub value : length f.value ≡ size_of s f.type

abbrev pub IsMember : ℕ → Member → Type 0
IsMember s m = m.name < 256 ^ s

pub record IsClass (s : ℕ) (c : Class) : Type 0 where
  pub object : c.object < 256 ^ s
  pub stack : c.stack < 256 ^ 4
  pub super : c.super < 256 ^ s
  pub loader : c.loader < 256 ^ s
  pub signers : c.signers < 256 ^ s
  pub domain : c.domain < 256 ^ s
  pub reserved : c.reserved < 256 ^ s
  pub reserved_too : c.reserved_too < 256 ^ s
  pub instance_size : c.instance_size < 256 ^ 4
  pub constant_count : length c.constants < 256 ^ 2
  pub constants : AllByRecursion (IsConstant s) c.constants
  pub static_count : length c.statics < 256 ^ 2
  pub statics : AllByRecursion (IsStatic s) c.statics
  pub member_count : length c.members < 256 ^ 2
  pub members : AllByRecursion (IsMember s) c.members

pub record IsInstance (s : ℕ) (i : Instance) : Type 0 where
  pub object : i.object < 256 ^ s
  pub stack : i.stack < 256 ^ 4
  pub class : i.class < 256 ^ s
  pub values : length i.values < 256 ^ 4

pub record IsObjectArray (s : ℕ) (a : ObjectArray) : Type 0 where
  pub object : a.object < 256 ^ s
  pub stack : a.stack < 256 ^ 4
  pub class : a.class < 256 ^ s
  pub count : length a.elements < 256 ^ 4
  pub elements : AllByRecursion (λ e. e < 256 ^ s) a.elements

pub record IsPrimitiveArray (s : ℕ) (a : PrimitiveArray) : Type 0 where
  pub object : a.object < 256 ^ s
  pub stack : a.stack < 256 ^ 4
  pub count : a.count < 256 ^ 4
  pub values : length a.values ≡ a.count * size_of s a.type

abbrev pub IsOrigin : ℕ → RootOrigin → Type 0
IsOrigin s unknown = Unit {0}
IsOrigin s (jni_global reference) = reference < 256 ^ s
IsOrigin s (jni_local thread frame) = (thread < 256 ^ 4) × (frame < 256 ^ 4)
IsOrigin s (java_frame thread frame) = (thread < 256 ^ 4) × (frame < 256 ^ 4)
IsOrigin s (native_stack thread) = thread < 256 ^ 4
IsOrigin s sticky_class = Unit {0}
IsOrigin s (thread_block thread) = thread < 256 ^ 4
IsOrigin s monitor_used = Unit {0}
IsOrigin s (thread_object thread stack) = (thread < 256 ^ 4) × (stack < 256 ^ 4)

pub record IsRoot (s : ℕ) (r : Root) : Type 0 where
  pub object : r.object < 256 ^ s
  pub origin : IsOrigin s r.origin

abbrev pub HasBounds : ℕ → SubRecord → Type 0
HasBounds s (root r) = IsRoot s r
HasBounds s (class_dump c) = IsClass s c
HasBounds s (instance_dump i) = IsInstance s i
HasBounds s (object_array_dump a) = IsObjectArray s a
HasBounds s (primitive_array_dump a) = IsPrimitiveArray s a
