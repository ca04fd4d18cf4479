-- The roots of a heap list.
use Rattle.std.specs.Prelude.{List, filter, map, ℕ}
use Rattle.heap_graph.specs.Heap.{id_of}
use Rattle.heap_graph.specs.References.{targets}
use Rattle.hprof_grammar.specs.Dump.{is_root}
use Rattle.hprof_grammar.specs.SubRecord.{SubRecord}

-- the first identifier of each root sub-record, of whatever kind, in order
abbrev pub root_ids : List SubRecord → List ℕ
root_ids heap = map id_of (filter is_root heap)

-- the objects that `root_ids` name, in order, with repeats
abbrev pub root_objects : List SubRecord → List ℕ
root_objects heap = targets heap (root_ids heap)
