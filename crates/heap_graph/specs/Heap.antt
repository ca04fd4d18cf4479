-- The heap list of a dump, its objects, and what an identifier names.
use Rattle.std.specs.Prelude.{List, None, Option, Some, filter, filter_map, if◌then◌else◌, option_and_then, position}
use Rattle.std.specs.Prelude.{slice_get, ℕ, ◌==◌}
use Rattle.std.specs.List.{position_or_len}
use Rattle.hprof_grammar.specs.Dump.{is_object}
use Rattle.hprof_grammar.specs.SubRecord.{Class, SubRecord}
use Rattle.hprof_grammar.specs.SubRecord.SubRecord.{class_dump}
pub use Rattle.hprof_grammar.specs.Dump.{heap_of, id_of}

-- The sub-records that describe objects, in order. An object's number is its position here.
abbrev pub objects : List SubRecord → List SubRecord
objects heap = filter is_object heap

-- The number of the object that an identifier names: the first object that bears it, of whatever kind.
abbrev pub number_named : List SubRecord → ℕ → Option ℕ
number_named heap id = position (λ o. id_of o == id) (objects heap)

abbrev pub object_named : List SubRecord → ℕ → Option SubRecord
object_named heap id = option_and_then (λ n. slice_get (objects heap) n) (number_named heap id)

abbrev pub as_class : SubRecord → Option Class
as_class (class_dump c) = Some c
as_class o = None

-- The class that an identifier names, if the object that it names is a class dump. Identifier 0 names none.
abbrev pub class_named : List SubRecord → ℕ → Option Class
class_named heap id = if id == 0 then None else option_and_then as_class (object_named heap id)

-- The class dumps in their order. A class's number is its position here.
abbrev pub class_dumps : List SubRecord → List Class
class_dumps heap = filter_map as_class heap

-- the number of the first class dump with the identifier `id`, or the number of class dumps if there is none
abbrev pub class_number : List SubRecord → ℕ → ℕ
class_number heap id = position_or_len (λ c. c.object == id) (class_dumps heap)
