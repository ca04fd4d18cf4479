-- The objects of the part so far are gathered.
use Rattle.heap_graph.specs.working.GatheredParts.{HasGathered}
use Rattle.heap_graph.proofs.objects.gathering.gather_part.Given as goal

abbrev pub invariant-loop-number : goal.invariant-loop-number
invariant-loop-number g l = HasGathered l.view l.places l.fn.bits l.start l.number l.gathered
