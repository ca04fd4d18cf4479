-- A class as entries of a list of fields are compared with it.
use Rattle.std.specs.Prelude.{Bool, List, Option, ℕ, ◌&&◌}
use Rattle.std.specs.List.{list_any}
use Rattle.hprof_grammar.specs.Record.{Record}
use Rattle.hprof_grammar.specs.SubRecord.{Class, Member}
use Rattle.heap_graph.specs.ClassNames.{class_text}
use Rattle.heap_graph.specs.MetEntries.{is_called}
use Rattle.heap_graph.specs.Skips.{SkipEntry, is_text}

-- the text that names a class, and the fields that it declares
pub record DescribedClass : Type 0 where
  pub text : Option (List ℕ)
  pub members : List Member

abbrev pub described : List Record → Class → DescribedClass
described records c = record { text = class_text records c.object; members = c.members }

-- what `declares` is for a class described by `d`
abbrev pub declares_described : List Record → SkipEntry → DescribedClass → Bool
declares_described records e d = is_text d.text e.class && list_any (is_called records e.field) d.members
