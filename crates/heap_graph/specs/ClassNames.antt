-- The names of classes. If several strings or several loaded classes have the same identifier, the first one counts.
use Rattle.std.specs.Prelude.{List, None, Option, Some, [], if◌then◌else◌, option_and_then, ℕ, ◌==◌, ◌∷◌}
use Rattle.hprof_grammar.specs.Record.{Record}
use Rattle.hprof_grammar.specs.Record.Record.{load_class, string}

-- the text of the first string with the identifier `id`
abbrev pub string_named : List Record → ℕ → Option (List ℕ)
string_named [] id = None
string_named (string time i text ∷ rest) id = if i == id then Some text else string_named rest id
string_named (r ∷ rest) id = string_named rest id

-- the identifier of the string that names the first loaded class with the identifier `id`
abbrev pub name_of : List Record → ℕ → Option ℕ
name_of [] id = None
name_of (load_class time serial class stack name ∷ rest) id = if class == id then Some name else name_of rest id
name_of (r ∷ rest) id = name_of rest id

-- The text that names the class with the identifier `id`: `None` if no such class is loaded, or if the string of its
-- name is missing.
abbrev pub class_text : List Record → ℕ → Option (List ℕ)
class_text records id = option_and_then (string_named records) (name_of records id)
