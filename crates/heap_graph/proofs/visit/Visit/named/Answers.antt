-- The known class and the other identifiers are the steps that are left.
use Rattle.std.proofs.Common.{ap, map, ◌++◌, ◌∙◌}
use Rattle.heap_graph.specs.Walks.{Visited, step_in}
use Rattle.heap_graph.specs.working.Resolving.{known_ids}
use Rattle.heap_graph.proofs.visit.Visit.named.Goals as goal

pub returns : goal.returns
returns g c =
    let all = c.self.inside.index.now in
    c.new.ensures
    ∙ ap (λ (v : Visited). map (step_in all) (known_ids all c.self.inside.class) ++ v.left) c.rest.view_is
    ∙ ap (λ (v : Visited). v.left) c.self.view_is
