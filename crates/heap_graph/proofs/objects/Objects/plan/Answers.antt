-- The class with each number is at its place, so the fields that are read there are the planned ones.
use Rattle.heap_graph.proofs.Words.{Class, List, Record, SkipEntry, Some, [], ap, arith, bounds, class_named, heap_of}
use Rattle.heap_graph.proofs.Words.{ids_of, is_skipped, is_skipped_in, length, length-append, slice_index, sym}
use Rattle.heap_graph.proofs.Words.{target_in, ℕ, ◌<◌, ◌^◌, ◌∙◌, ◌∷◌, ◌≡◌}
use Rattle.heap_graph.proofs.ClassTableLaws.{same_count, stands_at}
use Rattle.heap_graph.proofs.Linking.{IsClassThere, class_there}
use Rattle.heap_graph.proofs.PlanLaws.{fields_read, no_object, no_plan, objects_more, plan_more}
use Rattle.heap_graph.proofs.objects.Objects.plan.Goals as goal

-- a class with a number has its identifier, so the test of the identifier is the test of the class
same_test : (records : List Record) (skip : List SkipEntry) (ids : List ℕ) (k id : ℕ) (c : Class)
    → id ≡ slice_index ids k → class_named (heap_of records) (slice_index ids k) ≡ Some c
    → is_skipped_in records skip id ≡ is_skipped records skip c
same_test records skip ids k id c is named =
    let there : IsClassThere (heap_of records) (slice_index ids k) c =
    class_there (heap_of records) (slice_index ids k) c named in
    ap (λ (i : ℕ). is_skipped_in records skip i) (is ∙ sym there.id_is)

pub members-requires : goal.members-requires
members-requires g c =
    let o = c.args.self.now in
    stands_at o.view c.requires.fates.0 o.classes.table.entries c.loop-number.number c.class_place-place.result
    c.requires.fates.1.classes (omega (arith, c.loop-number-test.true, c.len-count.ensures)) c.class_place-place.ensures

pub push-requires-clause-few : goal.push-requires-clause-few
push-requires-clause-few g c =
    let o = c.args.self.now in
    let it =
    stands_at o.view c.requires.fates.0 o.classes.table.entries c.loop-number.number c.class_place-place.result
    c.requires.fates.1.classes (omega (arith, c.loop-number-test.true, c.len-count.ensures)) c.class_place-place.ensures
    in
    let few : length it.0.members < 256 ^ 2 = (bounds it.1.is.formed).member_count in
    omega (arith, few, ap length (c.members.ensures it.0 it.1))

pub push-requires-clause-skips : goal.push-requires-clause-skips
push-requires-clause-skips g c =
    let names = c.requires.names in
    (is_skipped_in names.0 c.args.skip.now c.id-id.result, c.of-skips.ensures names.0 names.1)

pub loop-number-init : goal.loop-number-init
loop-number-init g c = record {
  count = ap length c.in_ok-with_capacity.ensures.items;
  each = λ records told names.
      let o = c.args.self.now in
      no_plan c.in_ok-with_capacity.field-0.items c.in_ok-with_capacity.ensures.items
      (is_skipped records c.args.skip.now) o.view.id_size (heap_of records) (ids_of o.classes.table.entries)
      c.new.result.items;
  objects =
      no_object c.in_ok-with_capacity.field-0.items c.in_ok-with_capacity.ensures.items c.args.self.now.index
      (ids_of c.args.self.now.classes.table.entries);
}

pub loop-number-preserved : goal.loop-number-preserved
loop-number-preserved g c =
    let o = c.args.self.now in
    let skip = c.args.skip.now in
    let id = c.id-id.result in
    let names = c.requires.names in
    let adds = c.in_ok-push.ensures (is_skipped_in names.0 skip id) (c.of-skips.ensures names.0 names.1) in
    record {
      count =
          omega (
            arith,
            c.loop-number.invariant.count,
            ap length adds.plans_are,
            length-append c.loop-number.plan.classes.items (adds.class ∷ []),
          );
      each = λ records told are.
          plan_more (c.in_ok-push.ensures (is_skipped_in records skip id) (c.of-skips.ensures records are))
          (is_skipped records skip) (heap_of records) (ids_of o.classes.table.entries) c.loop-number.number
          c.loop-number.invariant.count (c.loop-number.invariant.each records told are)
          (λ d named. record {
            members_are = fields_read
                o.view (heap_of records) o.classes.table.entries c.loop-number.number c.class_place-place.result
                c.members.result told.classes (omega (arith, c.loop-number-test.true, c.len-count.ensures))
                c.class_place-place.ensures c.members.ensures d named;
            tests =
                same_test records skip (ids_of o.classes.table.entries) c.loop-number.number id d c.id-id.ensures named;
          });
      objects =
          objects_more adds o.index (ids_of o.classes.table.entries) c.loop-number.number
          c.loop-number.invariant.count c.loop-number.invariant.objects
          (c.target-object.ensures ∙ ap (λ (i : ℕ). target_in o.index i) c.id-id.ensures);
    }

pub returns : goal.returns
returns g c = λ records told names.
    let o = c.args.self.now in
    record {
      one_each = omega (
        arith,
        c.loop-number.invariant.count,
        c.loop-number-test.false,
        c.loop-number.auto.number-end,
        c.len-count.ensures,
        same_count o.classes.table.entries,
      );
      each = c.loop-number.invariant.each records told names;
      objects_are = c.loop-number.invariant.objects;
    }
