-- Which fields of one class are on the list of those that are not followed.
use Rattle.std.specs.Prelude.{Bool, List, Option, [], option_copied, ℕ, ◌&&◌, ◌≡◌, ◌⊎◌}
use Rattle.std.specs.List.{list_any}
use Rattle.hprof_grammar.specs.Record.{Record}
use Rattle.hprof_grammar.specs.SubRecord.{Member}
use Rattle.heap_graph.specs.ClassNames.{class_text, string_named}
use Rattle.heap_graph.specs.Skips.{SkipEntry, is_text}
use Rattle.heap_graph.specs.working.PlacedNames.{AreNamesByIdOf}
use Rattle.heap_graph.specs.declared.skip.class_skips.ClassSkips.{ClassSkips}

-- the entry has the text `class` for its class
abbrev pub names_class : Option (List ℕ) → SkipEntry → Bool
names_class class e = is_text class e.class

-- the entry has the text `class` for its class, and the string with the identifier `name` for its field
abbrev pub names_field : List Record → Option (List ℕ) → ℕ → SkipEntry → Bool
names_field records class name e = is_text class e.class && is_text (string_named records name) e.field

-- what `is_skipped` is for the class with the identifier `class`
abbrev pub is_skipped_in : List Record → List SkipEntry → ℕ → Member → Bool
is_skipped_in records skip class m = list_any (names_field records (class_text records class) m.name) skip

-- The test says for each field of a class whether it is on the list. If the list is empty, the text that names the
-- class is not looked up.
pub record IsSkipTest {A : Type 0} (k : ClassSkips A) (test : Member → Bool) : Type 0 where
  pub records : List Record
  pub class : ℕ
  pub names : AreNamesByIdOf k.names.now records
  pub text : (k.entries.now ≡ []) ⊎ (option_copied k.class ≡ class_text records class)
  pub test_is : test ≡ is_skipped_in records k.entries.now class
