-- The kinds of the sub-records that describe objects.
use Rattle.std.specs.Prelude.{None, Option, Some}
use Rattle.hprof_grammar.specs.SubRecord.{SubRecord}
use Rattle.hprof_grammar.specs.SubRecord.SubRecord.{class_dump, instance_dump, object_array_dump, primitive_array_dump}
use Rattle.hprof_grammar.specs.SubRecord.SubRecord.{root}
use Rattle.hprof_grammar.specs.declared.kinds.ObjectKind.{ObjectKind}
use Rattle.hprof_grammar.specs.declared.kinds.ObjectKind.TheVariants.{Class, Instance, ObjectArray, PrimitiveArray}

-- none for a root, which only names an object
abbrev pub object_kind : SubRecord → Option ObjectKind
object_kind (root r) = None
object_kind (class_dump c) = Some Class
object_kind (instance_dump i) = Some Instance
object_kind (object_array_dump a) = Some ObjectArray
object_kind (primitive_array_dump a) = Some PrimitiveArray
