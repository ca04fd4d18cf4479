-- What an index searches.
use Rattle.std.specs.Prelude.{List, ℕ}
use Rattle.id_index.specs.declared.index.Form.{Form}
use Rattle.id_index.specs.declared.index.Form.TheVariants as forms

-- the identifiers by which objects are found
abbrev pub ids_held : {A : Type 0} → Form A → List ℕ
ids_held (forms.Extents ids) = ids
ids_held (forms.Narrow ids) = ids
ids_held (forms.Wide ids) = ids
