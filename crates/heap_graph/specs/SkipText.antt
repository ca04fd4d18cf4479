-- The text of a list of fields that are not followed, by its bytes.
use Rattle.std.specs.Prelude.{Contains, List, [], length, ℕ, ◌++◌, ◌∷◌, ◌≡◌, ◌≢◌, ◌≤◌}
use Rattle.std.specs.List.{AllByRecursion}
use Rattle.heap_graph.specs.Skips.{SkipEntry}

abbrev pub comma : ℕ
comma = 44

abbrev pub dot : ℕ
dot = 46

-- the largest number of entries of a list
abbrev pub most_entries : ℕ
most_entries = 64

-- the class, a dot, and the field
abbrev pub entry_text : SkipEntry → List ℕ
entry_text e = e.class ++ dot ∷ e.field

-- Neither name is empty. The field has no dot, so that the last dot separates the two, and neither has a comma.
pub record IsEntry (e : SkipEntry) : Type 0 where
  pub some_class : e.class ≢ []
  pub some_field : e.field ≢ []
  pub last_dot : Contains e.field dot → ⊥
  pub no_comma : Contains (entry_text e) comma → ⊥

-- entries separated by commas
abbrev pub list_text : List SkipEntry → List ℕ
list_text [] = []
list_text (e ∷ []) = entry_text e
list_text (e ∷ f ∷ es) = entry_text e ++ comma ∷ list_text (f ∷ es)

-- the text spells a list of one entry to `most_entries`
pub record SpellsSkips (text : List ℕ) (list : List SkipEntry) : Type 0 where
  pub some : 1 ≤ length list
  pub most : length list ≤ most_entries
  pub each : AllByRecursion IsEntry list
  pub spelled : text ≡ list_text list
