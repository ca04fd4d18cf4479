-- The entries visited so far have added their roots.
use Rattle.std.proofs.Common.{take, ◌++◌, ◌≡◌}
use Rattle.labelled_graph.specs.working.Kept.{added_roots}
use Rattle.labelled_graph.proofs.roots.labelled_roots.Given as goal

abbrev pub invariant-loop-entry : goal.invariant-loop-entry
invariant-loop-entry g l =
    l.roots.items ≡ l.initial.roots.items ++ added_roots l.graph.ids (take l.entry-index l.entries)
