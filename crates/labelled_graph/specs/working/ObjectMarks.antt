-- The marks of single objects.
use Rattle.std.specs.Prelude.{Bool, List, None, Option, false, if◌then◌else◌, slice_index_or, ℕ}
use Rattle.labelled_graph.specs.declared.mark.Mark.{Mark}
use Rattle.labelled_graph.specs.working.MarkMaps.{MarkMap, mark_at}

-- the mark of an object's place, if `has` says that the object has marks of its own
abbrev pub own_mark_at : MarkMap → List Bool → ℕ → ℕ → Option Mark
own_mark_at marks has o i = if slice_index_or has o false then mark_at marks o i else None
