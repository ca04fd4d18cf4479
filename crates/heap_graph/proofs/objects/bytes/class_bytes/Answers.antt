-- The form of a class dump bounds its statics, and the bytes of a static are those of its value.
use Rattle.heap_graph.proofs.Words.{LabelledValue, List, ap, arith, bounds, length, length-map, of_static, size_of}
use Rattle.heap_graph.proofs.Words.{sum_by, ◌<◌, ◌^◌, ◌∙◌}
use Rattle.heap_graph.proofs.EntryLaws.{static_bytes}
use Rattle.heap_graph.proofs.objects.bytes.class_bytes.Goals as goal

pub bytes_together-requires : goal.bytes_together-requires
bytes_together-requires c =
    let o = c.requires in
    let few : length o.0.statics < 256 ^ 2 = (bounds o.1.is.formed).static_count in
    omega (arith, few, ap length (c.statics.ensures o.0 o.1), length-map o.0.statics of_static)

pub returns : goal.returns
returns c = λ o stands.
    c.bytes_together.ensures
    ∙ ap (λ (vs : List LabelledValue). sum_by (λ v. size_of c.args.view.now.id_size v.type) vs)
    (c.statics.ensures o stands)
    ∙ static_bytes c.args.view.now.id_size o.statics
