-- The object at the place is of the kind that was read, so row, bytes and identifiers are those of this object. In a
-- linked heap its class exists and is planned.
use Rattle.heap_graph.proofs.Words.{AreIdsOf, List, ap, class_dump, class_number, instance_dump, length}
use Rattle.heap_graph.proofs.Words.{object_array_dump, primitive_array_dump, refl, subst, sym, ℕ, ◌<◌, ◌∙◌}
use Rattle.heap_graph.specs.declared.row.RowKey.TheVariants as keys
use Rattle.heap_graph.proofs.FirstNamed.{array_planned, instance_planned, known_class, known_first, known_named}
use Rattle.heap_graph.proofs.ObjectIdLaws.{no_ids}
use Rattle.heap_graph.proofs.Linking.{no_unknown_array}
use Rattle.heap_graph.proofs.Standings.{array_at, class_at, instance_at, primitives_at, there_at}
use Rattle.heap_graph.proofs.objects.Objects.visit_of.Goals as goal

pub kind-requires : goal.kind-requires
kind-requires g c =
    let it = there_at _ _ _ _ _ _ c.requires.heap.2.are c.requires.below c.index-place.ensures in
    (it.object, it.stands, it.describes)

-- ---- a class

pub class_bytes-bytes-requires : goal.class_bytes-bytes-requires
class_bytes-bytes-requires g c =
    let o = class_at _ _ _ _ _ _ c.requires.heap.2.are c.requires.below c.index-place.ensures c.in-Class.ensures in
    (o.0, o.1.stands)

pub ids_of_class-requires-clause-dump : goal.ids_of_class-requires-clause-dump
ids_of_class-requires-clause-dump g c =
    let o = class_at _ _ _ _ _ _ c.requires.heap.2.are c.requires.below c.index-place.ensures c.in-Class.ensures in
    (o.0, o.1.stands)

pub returns-in-Class : goal.returns-in-Class
returns-in-Class g c = λ skips heap linked told plan.
    let o = class_at _ _ _ _ _ _ linked.are c.requires.below c.index-place.ensures c.in-Class.ensures in
    record {
      object = class_dump o.0;
      is = o.1.is;
      row_is = refl;
      bytes_is = c.class_bytes-bytes.ensures o.0 o.1.stands;
      named = tt;
      ids_are = c.ids_of_class.ensures skips heap o.0 o.1.stands;
    }

-- ---- an instance

pub class_of-id-requires : goal.class_of-id-requires
class_of-id-requires g c =
    let r = c.requires.heap in
    let o = instance_at _ _ _ _ _ _ r.2.are c.requires.below c.index-place.ensures c.in-Instance.ensures in
    (r.1, c.args.number, o.0, r.2, r.3, o.1)

pub instance_values-requires : goal.instance_values-requires
instance_values-requires g c =
    let are = c.requires.heap.2.are in
    let o = instance_at _ _ _ _ _ _ are c.requires.below c.index-place.ensures c.in-Instance.ensures in
    (o.0, o.1.stands)

pub object_of_row-known-requires : goal.object_of_row-known-requires
object_of_row-known-requires g c =
    let r = c.requires.heap in
    let o = instance_at _ _ _ _ _ _ r.2.are c.requires.below c.index-place.ensures c.in-Instance.ensures in
    let class = c.class_of-id.ensures.class r.1 c.args.number o.0 r.2 r.3 o.1 in
    subst (λ (n : ℕ). n < length c.args.plan.now.classes.items) (sym class)
    (instance_planned r.1 _ c.args.plan.now.classes.items (r.3.classes.in_order r.2.linked) r.4.one_each _ _ o.0
    r.2.linked o.1.is)

pub ids_of_instance-ids-requires : goal.ids_of_instance-ids-requires
ids_of_instance-ids-requires g c =
    let r = c.requires.heap in
    let o = instance_at _ _ _ _ _ _ r.2.are c.requires.below c.index-place.ensures c.in-Instance.ensures in
    let first = c.class_of-id.ensures.first r.1 c.args.number o.0 r.2 r.3 o.1 in
    (r.0, r.1, c.args.number, o.0, r.2, r.3, r.4, o.1, c.class_of-id.ensures.id r.1 c.args.number o.0 o.1, first)

pub returns-in-Instance : goal.returns-in-Instance
returns-in-Instance g c = λ skips heap linked told plan.
    let o = instance_at _ _ _ _ _ _ linked.are c.requires.below c.index-place.ensures c.in-Instance.ensures in
    let id = c.class_of-id.ensures.id heap c.args.number o.0 o.1 in
    let first = c.class_of-id.ensures.first heap c.args.number o.0 linked told o.1 in
    let row = ap (λ (n : ℕ). keys.Class n) (c.class_of-id.ensures.class heap c.args.number o.0 linked told o.1) in
    let in_order = told.classes.in_order linked.linked in
    let has = instance_planned heap _ c.args.plan.now.classes.items in_order plan.one_each _ _ o.0 linked.linked
    o.1.is in
    let known = known_class heap _ _ in_order plan.one_each _ _ _ _ plan.objects_are has row
    c.object_of_row-known.ensures in
    record {
      object = instance_dump o.0;
      is = o.1.is;
      row_is = row;
      bytes_is = ap length (c.instance_values.ensures o.0 o.1.stands);
      named = known_named c.args.self.now.index o.0.class _ known;
      ids_are = subst (λ (ids : List ℕ). AreIdsOf skips c.args.self.now.view.id_size heap (instance_dump o.0) ids)
          (known_first c.args.self.now.index _ o.0.class _ _ known c.is_some.ensures)
          (c.ids_of_instance-ids.ensures skips heap c.args.number o.0 linked told plan o.1 id first);
    }

-- ---- an array of objects

pub array_class-id-requires : goal.array_class-id-requires
array_class-id-requires g c =
    let are = c.requires.heap.2.are in
    let o = array_at _ _ _ _ _ _ are c.requires.below c.index-place.ensures c.in-ObjectArray.ensures in
    (o.0, o.1.stands)

pub class_numbered-class-requires : goal.class_numbered-class-requires
class_numbered-class-requires g c =
    let r = c.requires.heap in
    let o = array_at _ _ _ _ _ _ r.2.are c.requires.below c.index-place.ensures c.in-ObjectArray.ensures in
    (r.1, r.2, r.3, no_unknown_array _ r.1 _ o.0 _ r.2.linked o.1.is (c.array_class-id.ensures o.0 o.1.stands))

pub array_bytes-bytes-requires : goal.array_bytes-bytes-requires
array_bytes-bytes-requires g c =
    let are = c.requires.heap.2.are in
    let o = array_at _ _ _ _ _ _ are c.requires.below c.index-place.ensures c.in-ObjectArray.ensures in
    (o.0, o.1.stands)

pub object_of_row-known-requires-in-ObjectArray : goal.object_of_row-known-requires-in-ObjectArray
object_of_row-known-requires-in-ObjectArray g c =
    let r = c.requires.heap in
    let o = array_at _ _ _ _ _ _ r.2.are c.requires.below c.index-place.ensures c.in-ObjectArray.ensures in
    let class = c.class_numbered-class.ensures.number r.1 r.2 r.3
    ∙ ap (λ (id : ℕ). class_number r.1 id) (c.array_class-id.ensures o.0 o.1.stands) in
    subst (λ (n : ℕ). n < length c.args.plan.now.classes.items) (sym class)
    (array_planned r.1 _ c.args.plan.now.classes.items (r.3.classes.in_order r.2.linked) r.4.one_each _ _ o.0
    r.2.linked o.1.is)

pub ids_of_array-ids-requires : goal.ids_of_array-ids-requires
ids_of_array-ids-requires g c =
    let are = c.requires.heap.2.are in
    let o = array_at _ _ _ _ _ _ are c.requires.below c.index-place.ensures c.in-ObjectArray.ensures in
    (o.0, o.1.stands, c.array_class-id.ensures o.0 o.1.stands)

pub returns-in-ObjectArray : goal.returns-in-ObjectArray
returns-in-ObjectArray g c = λ skips heap linked told plan.
    let o = array_at _ _ _ _ _ _ linked.are c.requires.below c.index-place.ensures c.in-ObjectArray.ensures in
    let id = c.array_class-id.ensures o.0 o.1.stands in
    let row = ap (λ (n : ℕ). keys.Class n) (c.class_numbered-class.ensures.number heap linked told
    ∙ ap (λ (x : ℕ). class_number heap x) id) in
    let in_order = told.classes.in_order linked.linked in
    let has = array_planned heap _ c.args.plan.now.classes.items in_order plan.one_each _ _ o.0 linked.linked o.1.is in
    let known = known_class heap _ _ in_order plan.one_each _ _ _ _ plan.objects_are has row
    c.object_of_row-known-in-ObjectArray.ensures in
    record {
      object = object_array_dump o.0;
      is = o.1.is;
      row_is = row;
      bytes_is = c.array_bytes-bytes.ensures o.0 o.1.stands;
      named = known_named c.args.self.now.index o.0.class _ known;
      ids_are = subst (λ (ids : List ℕ). AreIdsOf skips c.args.self.now.view.id_size heap (object_array_dump o.0) ids)
          (known_first c.args.self.now.index _ o.0.class _ _ known c.is_some-in-ObjectArray.ensures)
          (c.ids_of_array-ids.ensures skips heap o.0 o.1.stands id);
    }

-- ---- an array of primitive values

pub element_type-code-requires : goal.element_type-code-requires
element_type-code-requires g c =
    let are = c.requires.heap.2.are in
    let o = primitives_at _ _ _ _ _ _ are c.requires.below c.index-place.ensures c.in-PrimitiveArray.ensures in
    (o.0, o.1.stands)

pub primitive_bytes-bytes-requires : goal.primitive_bytes-bytes-requires
primitive_bytes-bytes-requires g c =
    let are = c.requires.heap.2.are in
    let o = primitives_at _ _ _ _ _ _ are c.requires.below c.index-place.ensures c.in-PrimitiveArray.ensures in
    (o.0, o.1.stands, c.element_type-code.ensures o.0 o.1.stands)

pub returns-in-PrimitiveArray : goal.returns-in-PrimitiveArray
returns-in-PrimitiveArray g c = λ skips heap linked told plan.
    let are = linked.are in
    let o = primitives_at _ _ _ _ _ _ are c.requires.below c.index-place.ensures c.in-PrimitiveArray.ensures in
    let code = c.element_type-code.ensures o.0 o.1.stands in
    record {
      object = primitive_array_dump o.0;
      is = o.1.is;
      row_is = ap (λ (t : ℕ). keys.Primitive t) code;
      bytes_is = c.primitive_bytes-bytes.ensures o.0 o.1.stands code;
      named = tt;
      ids_are = no_ids skips c.args.self.now.view.id_size heap o.0;
    }
