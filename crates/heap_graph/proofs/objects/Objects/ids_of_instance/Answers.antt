-- An instance holds its class and then the fields of its layout, which are no more than the bytes of its values.
use Rattle.heap_graph.proofs.Words.{arith, bounds, declared_fields, refl}
use Rattle.heap_graph.proofs.ObjectIdLaws.{few_in_instance, instance_holds, layout_from, with_known_class}
use Rattle.heap_graph.proofs.ObjectIdLaws.{with_read_class}
use Rattle.heap_graph.proofs.objects.Objects.ids_of_instance.Goals as goal

pub new-fields-requires-clause-heap : goal.new-fields-requires-clause-heap
new-fields-requires-clause-heap g c =
    let first = c.requires.9 in (
      c.requires.0,
      c.requires.1,
      declared_fields first.chain,
      c.requires.5,
      c.requires.6,
      layout_from c.args.self.now c.requires.1 c.requires.3 c.args.first c.instance_values.result.now first
          (c.instance_values.ensures c.requires.3 c.requires.7.stands),
    )

pub invariant_of-result : goal.invariant_of-result
invariant_of-result g c =
    let first = c.requires.9 in
    let values = c.instance_values.ensures c.requires.3 c.requires.7.stands in
    let fields = c.new-fields.ensures c.requires.0 c.requires.1 (declared_fields first.chain) c.requires.5 c.requires.6
    (layout_from c.args.self.now c.requires.1 c.requires.3 c.args.first c.instance_values.result.now first values) in
    let few = few_in_instance c.requires.0 first _ _ c.requires.4.low
    (bounds c.requires.7.stands.is.formed).values values fields in
    omega (arith, few)

pub returns-then-class_is_known : goal.returns-then-class_is_known
returns-then-class_is_known g c = λ skips heap n i linked told plan at is first.
    let values = c.instance_values.ensures i at.stands in
    let fields = c.new-fields.ensures skips heap (declared_fields first.chain) told plan
    (layout_from c.args.self.now heap i c.args.first c.instance_values.result.now first values) in
    with_known_class _ _ _ _ _ _ _ c.if-class_is_known.true
    (instance_holds skips first i.class _ _ linked.low (bounds at.stands.is.formed).values refl values
    fields)

pub invariant_of-result-2 : goal.invariant_of-result-2
invariant_of-result-2 g c =
    let first = c.requires.9 in
    let values = c.instance_values.ensures c.requires.3 c.requires.7.stands in
    let fields = c.new-fields.ensures c.requires.0 c.requires.1 (declared_fields first.chain) c.requires.5 c.requires.6
    (layout_from c.args.self.now c.requires.1 c.requires.3 c.args.first c.instance_values.result.now first values) in
    let few = few_in_instance c.requires.0 first _ _ c.requires.4.low
    (bounds c.requires.7.stands.is.formed).values values fields in
    omega (arith, few)

pub returns : goal.returns
returns g c = λ skips heap n i linked told plan at is first.
    let values = c.instance_values.ensures i at.stands in
    let fields = c.new-fields.ensures skips heap (declared_fields first.chain) told plan
    (layout_from c.args.self.now heap i c.args.first c.instance_values.result.now first values) in
    with_read_class _ _ _ _ _ _ _ c.if-class_is_known.false
    (instance_holds skips first _ _ _ linked.low (bounds at.stands.is.formed).values
    is values fields)
