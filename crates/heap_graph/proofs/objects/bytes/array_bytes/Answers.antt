-- The form of an array bounds its elements, so nothing overflows.
use Rattle.heap_graph.proofs.Words.{ap, arith, bounds, length, mul-le-mul_left, ℕ, ◌*◌, ◌<◌, ◌^◌, ◌∙◌, ◌≤◌}
use Rattle.heap_graph.proofs.FieldLaws.{size_of_id}
use Rattle.heap_graph.proofs.objects.bytes.array_bytes.Goals as goal

pub overflow_mul-result : goal.overflow_mul-result
overflow_mul-result c =
    let o = c.requires in
    let few : length o.0.elements < 256 ^ 4 = (bounds o.1.is.formed).count in
    let size : c.from-size.result ≤ 255 = omega arith in
    omega (
      arith,
      few,
      c.len.ensures,
      ap length (c.array_elements.ensures o.0 o.1),
      mul-le-mul_left c.len.result size,
    )

pub returns : goal.returns
returns c = λ a stands.
    ap (λ (n : ℕ). n * c.from-size.result) (c.len.ensures ∙ ap length (c.array_elements.ensures a stands))
    ∙ ap (λ (n : ℕ). length a.elements * n)
    (c.from-size.ensures ∙ c.size_of.ensures ∙ size_of_id c.args.view.now.id_size)
