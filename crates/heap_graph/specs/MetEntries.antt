-- Which entries of a list of fields name a field that a class of the dump declares.
use Rattle.std.specs.Prelude.{Bool, List, ℕ, ◌&&◌}
use Rattle.std.specs.List.{list_any}
use Rattle.heap_graph.specs.ClassNames.{class_text, string_named}
use Rattle.heap_graph.specs.Heap.{class_dumps, heap_of}
use Rattle.heap_graph.specs.Skips.{SkipEntry, is_text}
use Rattle.hprof_grammar.specs.Record.{Record}
use Rattle.hprof_grammar.specs.SubRecord.{Class, Member}

-- the name of the field `m` is the text `name`
abbrev pub is_called : List Record → List ℕ → Member → Bool
is_called records name m = is_text (string_named records m.name) name

-- The class `c` declares the field of the entry: the entry has the name of `c`, and the name of a field that `c`
-- declares, of whatever type.
abbrev pub declares : List Record → SkipEntry → Class → Bool
declares records e c = is_text (class_text records c.object) e.class && list_any (is_called records e.field) c.members

-- A class that a class dump describes declares the field of the entry.
abbrev pub is_met : List Record → SkipEntry → Bool
is_met records e = list_any (declares records e) (class_dumps (heap_of records))
