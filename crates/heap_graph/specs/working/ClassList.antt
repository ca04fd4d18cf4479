-- Classes in a list.
use Rattle.std.specs.Prelude.{List, map, ℕ}
use Rattle.heap_graph.specs.declared.classes.ClassPlace.{ClassPlace}

-- a class: its identifier, and the place and the size that are kept of it
abbrev pub TableEntry : Type 0
TableEntry = ℕ × ClassPlace

abbrev pub ids_of : List TableEntry → List ℕ
ids_of entries = map (λ e. e.0) entries

-- the classes in order
pub record ClassList : Type 0 where
  pub entries : List TableEntry
