-- An array holds its class and then its elements. Its form allows no more of them than the walk has room for.
use Rattle.heap_graph.proofs.Words.{ap, arith, bounds, length, refl}
use Rattle.heap_graph.proofs.ObjectIdLaws.{array_holds, with_known_class, with_read_class}
use Rattle.heap_graph.proofs.objects.Objects.ids_of_array.Goals as goal

pub invariant_of-result : goal.invariant_of-result
invariant_of-result g c =
    let r = c.requires in
    omega (arith, ap length (c.array_elements-elements.ensures r.0 r.1), (bounds r.1.is.formed).count)

pub returns-then-class_is_known : goal.returns-then-class_is_known
returns-then-class_is_known g c = λ skips heap a stands is.
    with_known_class _ _ _ _ _ _ _ c.if-class_is_known.true
    (array_holds skips c.args.self.now.view.id_size heap a a.class c.array_elements-elements.result
    (bounds stands.is.formed).count refl (c.array_elements-elements.ensures a stands))

pub invariant_of-result-2 : goal.invariant_of-result-2
invariant_of-result-2 g c =
    let r = c.requires in
    omega (arith, ap length (c.array_elements-elements.ensures r.0 r.1), (bounds r.1.is.formed).count)

pub returns : goal.returns
returns g c = λ skips heap a stands is.
    with_read_class _ _ _ _ _ _ _ c.if-class_is_known.false
    (array_holds skips c.args.self.now.view.id_size heap a c.args.class c.array_elements-elements.result
    (bounds stands.is.formed).count is (c.array_elements-elements.ensures a stands))
