-- The identifiers and class dumps so far are those that gathering from the first object on would have.
use Rattle.heap_graph.specs.working.GatheredParts.{HasGathered}
use Rattle.heap_graph.proofs.objects.unordered.sorted.Given as goal

abbrev pub invariant-loop-number : goal.invariant-loop-number
invariant-loop-number g l =
    HasGathered l.view l.places (record { shift = 0; low = 0 }) 0 l.number
    (record { ids = record { ids = l.ids; shift = 0; low = 0 }; class_dumps = l.class_dumps })
