-- The row and the bytes of an object.
use Rattle.std.specs.Prelude.{List, length, sum_by, ℕ, ◌*◌}
use Rattle.heap_graph.specs.Heap.{class_number}
use Rattle.hprof_grammar.specs.TagsAndTypes.{size_of}
use Rattle.hprof_grammar.specs.SubRecord.{SubRecord}
use Rattle.hprof_grammar.specs.SubRecord.SubRecord.{class_dump, instance_dump, object_array_dump, primitive_array_dump}
use Rattle.hprof_grammar.specs.SubRecord.SubRecord.{root}
use Rattle.heap_graph.specs.declared.row.RowKey.{RowKey}
use Rattle.heap_graph.specs.declared.row.RowKey.TheVariants as keys

-- An instance or object array belongs to the row of its class, a primitive array to the row of its type, and a class to
-- the row of the class objects.
abbrev pub row_of : List SubRecord → SubRecord → RowKey
row_of heap (instance_dump i) = keys.Class (class_number heap i.class)
row_of heap (object_array_dump a) = keys.Class (class_number heap a.class)
row_of heap (primitive_array_dump a) = keys.Primitive a.type
row_of heap o = keys.ClassObject

-- The bytes of an instance are its values, those of an object array its elements, those of a primitive array its
-- elements, and those of a class its static values.
abbrev pub bytes_of : ℕ → SubRecord → ℕ
bytes_of s (root r) = 0
bytes_of s (class_dump c) = sum_by (λ f. size_of s f.type) c.statics
bytes_of s (instance_dump i) = length i.values
bytes_of s (object_array_dump a) = length a.elements * s
bytes_of s (primitive_array_dump a) = a.count * size_of s a.type
