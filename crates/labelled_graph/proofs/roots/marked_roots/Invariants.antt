-- The roots visited so far are the first ones.
use Rattle.std.proofs.Common.{map, take, ◌≡◌}
use Rattle.heap_graph.specs.Walks.{target_in}
use Rattle.labelled_graph.specs.working.Kept.{kept, root_mark}
use Rattle.labelled_graph.proofs.roots.marked_roots.Given as goal

abbrev pub invariant-loop-index : goal.invariant-loop-index
invariant-loop-index g l =
    l.roots.items ≡ kept (root_mark l.marks.marks) 0 (map (target_in l.graph.ids) (take l.index l.root_names))
