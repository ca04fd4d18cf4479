-- The text and the fields that are read at the class's place are the class's own.
use Rattle.heap_graph.proofs.Words.{ap, class_dump, class_text, ◌∙◌}
use Rattle.heap_graph.proofs.skip.met.DescribedClass.at.Goals as goal

pub returns : goal.returns
returns g c = λ records k names stands.
    let text = c.class_text.ensures records names
    ∙ ap (class_text records) (c.object_id.ensures (class_dump k) stands) in
    let members = c.members.ensures k stands in
    λ i. record { text = text i; members = members i }
