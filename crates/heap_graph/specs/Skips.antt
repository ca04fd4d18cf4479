-- Fields that are not followed, by the name of the class that declares the field and the name of the field itself.
use Rattle.std.specs.Prelude.{Bool, List, None, Option, Some, false, ◌&&◌, ℕ}
use Rattle.std.specs.List.{list_any}
use Rattle.std.specs.Str.{bytes_eq}
use Rattle.heap_graph.specs.ClassNames.{class_text, string_named}
use Rattle.hprof_grammar.specs.Record.{Record}
use Rattle.hprof_grammar.specs.SubRecord.{Class, Member}

-- an entry: the bytes of the class's name and of the field's name
pub record SkipEntry : Type 0 where
  pub class : List ℕ
  pub field : List ℕ

-- whether the text is `name`; a missing text equals no name
abbrev pub is_text : Option (List ℕ) → List ℕ → Bool
is_text None name = false
is_text (Some text) name = bytes_eq text name

abbrev pub is_entry_of : List Record → Class → Member → SkipEntry → Bool
is_entry_of records c m e =
    is_text (class_text records c.object) e.class && is_text (string_named records m.name) e.field

-- The field `m`, which the class `c` declares, is skipped if an entry of the list has the names of both, byte for byte.
abbrev pub is_skipped : List Record → List SkipEntry → Class → Member → Bool
is_skipped records skip c m = list_any (is_entry_of records c m) skip
