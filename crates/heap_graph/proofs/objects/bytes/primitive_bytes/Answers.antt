-- As many elements as the array says, each of the size of their type.
use Rattle.heap_graph.proofs.Words.{ap, size_of, ℕ, ◌*◌, ◌∙◌}
use Rattle.heap_graph.proofs.objects.bytes.primitive_bytes.Goals as goal

pub returns : goal.returns
returns c = λ a stands is.
    ap (λ (n : ℕ). n * c.from-size.result) (c.from.ensures ∙ c.element_count.ensures a stands)
    ∙ ap (λ (n : ℕ). a.count * n)
    (c.from-size.ensures ∙ c.size_of.ensures ∙ ap (λ (t : ℕ). size_of c.args.view.now.id_size t) is)
