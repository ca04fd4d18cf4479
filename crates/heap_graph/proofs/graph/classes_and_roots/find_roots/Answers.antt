-- The identifiers are those of the roots, and the objects that they name are looked up.
use Rattle.heap_graph.proofs.Words.{filter, is_root, ◌∙◌}
use Rattle.heap_graph.proofs.Building.{roots_resolved}
use Rattle.heap_graph.proofs.graph.classes_and_roots.find_roots.Goals as goal

pub returns : goal.returns
returns g c = λ heap linked stand.
    roots_resolved heap c.args.objects.now.index c.deref.result.now c.new-roots.result.items c.resolve.new.targets.items
    c.in_ok-unresolved.unresolved linked.are.ids_are c.new-roots.ensures.items
    (c.deref.ensures.value ∙ c.in_ok-ids.ensures (filter is_root heap) stand) c.in_ok-unresolved.ensures
