-- The kinds of sub-records (the code's types `Kind` and `RootKind`), and their tags.
use Rattle.std.specs.Prelude.{None, Option, Some, if◌then◌else◌, ℕ, ◌==◌}
use Rattle.hprof_grammar.specs.SubRecord.{RootOrigin, SubRecord}
use Rattle.hprof_grammar.specs.SubRecord.RootOrigin.{java_frame, jni_global, jni_local, monitor_used, native_stack}
use Rattle.hprof_grammar.specs.SubRecord.RootOrigin.{sticky_class, thread_block, thread_object, unknown}
use Rattle.hprof_grammar.specs.SubRecord.SubRecord.{class_dump, instance_dump, object_array_dump, primitive_array_dump}
use Rattle.hprof_grammar.specs.SubRecord.SubRecord.{root}
use Rattle.hprof_grammar.specs.declared.kinds.Kind.{Kind}
use Rattle.hprof_grammar.specs.declared.kinds.Kind.TheVariants.{Object, Root}
use Rattle.hprof_grammar.specs.declared.kinds.ObjectKind.TheVariants.{Class, Instance, ObjectArray, PrimitiveArray}
use Rattle.hprof_grammar.specs.declared.kinds.RootKind.{RootKind}
use Rattle.hprof_grammar.specs.declared.kinds.RootKind.TheVariants.{JavaFrame, JniGlobal, JniLocal, MonitorUsed}
use Rattle.hprof_grammar.specs.declared.kinds.RootKind.TheVariants.{NativeStack, StickyClass, ThreadBlock, ThreadObject}
use Rattle.hprof_grammar.specs.declared.kinds.RootKind.TheVariants.{Unknown}

-- the kind of a root, by its origin: what makes the object a root
abbrev pub origin_kind : RootOrigin → RootKind
origin_kind unknown = Unknown
origin_kind (jni_global reference) = JniGlobal
origin_kind (jni_local thread frame) = JniLocal
origin_kind (java_frame thread frame) = JavaFrame
origin_kind (native_stack thread) = NativeStack
origin_kind sticky_class = StickyClass
origin_kind (thread_block thread) = ThreadBlock
origin_kind monitor_used = MonitorUsed
origin_kind (thread_object thread stack) = ThreadObject

-- the kind of a sub-record
abbrev pub sub_kind : SubRecord → Kind
sub_kind (root r) = Root (origin_kind r.origin)
sub_kind (class_dump c) = Object Class
sub_kind (instance_dump i) = Object Instance
sub_kind (object_array_dump a) = Object ObjectArray
sub_kind (primitive_array_dump a) = Object PrimitiveArray

-- the kind of a root, by its tag
unfoldable pub root_kind : ℕ → Option RootKind
root_kind tag =
    if tag == 0xFF then Some Unknown
    else if tag == 0x01 then Some JniGlobal
    else if tag == 0x02 then Some JniLocal
    else if tag == 0x03 then Some JavaFrame
    else if tag == 0x04 then Some NativeStack
    else if tag == 0x05 then Some StickyClass
    else if tag == 0x06 then Some ThreadBlock
    else if tag == 0x07 then Some MonitorUsed
    else if tag == 0x08 then Some ThreadObject
    else None

-- the tag of a kind of root: ROOT UNKNOWN, ROOT JNI GLOBAL, ROOT JNI LOCAL and so on
abbrev pub root_tag : RootKind → ℕ
root_tag Unknown = 0xFF
root_tag JniGlobal = 0x01
root_tag JniLocal = 0x02
root_tag JavaFrame = 0x03
root_tag NativeStack = 0x04
root_tag StickyClass = 0x05
root_tag ThreadBlock = 0x06
root_tag MonitorUsed = 0x07
root_tag ThreadObject = 0x08

abbrev pub root_of : Option RootKind → Option Kind
root_of None = None
root_of (Some kind) = Some (Root kind)

-- the kind of a sub-record, by its tag: CLASS DUMP, INSTANCE DUMP, OBJECT ARRAY DUMP, PRIMITIVE ARRAY DUMP, or a root
unfoldable pub kind_of : ℕ → Option Kind
kind_of tag =
    if tag == 0x20 then Some (Object Class)
    else if tag == 0x21 then Some (Object Instance)
    else if tag == 0x22 then Some (Object ObjectArray)
    else if tag == 0x23 then Some (Object PrimitiveArray)
    else root_of (root_kind tag)
