-- The steps are over the identifiers that the object holds.
use Rattle.std.proofs.Common.{List, ap, ◌∙◌}
use Rattle.heap_graph.specs.Walks.{Step, ids_in}
use Rattle.heap_graph.proofs.Walking.{ids_of_steps}
use Rattle.heap_graph.proofs.graph.Graph.successors.Goals as goal

pub returns-clause-ids : goal.returns-clause-ids
returns-clause-ids g c =
    ap (λ (steps : List Step). ids_in steps) (c.of.ensures ∙ c.visit.ensures.steps) ∙ ids_of_steps _ _
