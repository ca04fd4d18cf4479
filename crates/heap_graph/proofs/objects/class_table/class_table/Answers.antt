-- The table so far has the classes among the objects before the next class dump, and at the end those among all.
use Rattle.heap_graph.proofs.Words.{AreClasses, Sight, arith, subst, sym, ◌∙◌}
use Rattle.heap_graph.proofs.ClassNumbersLaws.{all_classes, among_first, next_added, next_class}
use Rattle.heap_graph.proofs.TableGrowth.{among_all}
use Rattle.heap_graph.proofs.objects.class_table.class_table.Goals as goal

pub loop-number-init : goal.loop-number-init
loop-number-init g c = record {
  view = c.in_ok-classes.ensures.view;
  among = λ heap are. among_first _ _ _ _ are.are _ _ are.class_dumps c.in_ok-classes.ensures.entries;
}

pub add_class-requires-clause-heap : goal.add_class-requires-clause-heap
add_class-requires-clause-heap g c =
    let heap = c.requires.heap.0 in
    let are = c.requires.heap.1 in
    let it = next_class c.args.view c.loop-number.classes.view c.loop-number.invariant.view _ heap c.args.indexed.now _
    c.deref-number-items.ensures.value c.loop-number.classes.table.entries c.loop-number.number-index are
    c.loop-number-test.true (c.loop-number.invariant.among heap are) in
    (heap, it.0, it.1, it.2)

pub loop-number-preserved : goal.loop-number-preserved
loop-number-preserved g c = record {
  view = c.in_ok-add_class.ensures.view ∙ c.loop-number.invariant.view;
  among = λ heap are.
      let it = next_class c.args.view c.loop-number.classes.view c.loop-number.invariant.view _ heap
      c.args.indexed.now _ c.deref-number-items.ensures.value c.loop-number.classes.table.entries
      c.loop-number.number-index are c.loop-number-test.true (c.loop-number.invariant.among heap are) in
      next_added c.args.view c.loop-number.classes.view c.loop-number.invariant.view _ heap c.args.indexed.now _
      c.deref-number-items.ensures.value c.add_class.new.classes.table.entries c.loop-number.number-index are
      c.loop-number-test.true (c.in_ok-add_class.ensures.among heap it.0 it.1 it.2);
}

pub returns-clause-classes : goal.returns-clause-classes
returns-clause-classes g c = λ heap are.
    subst (λ (v : Sight). AreClasses v heap c.loop-number.classes.table.entries) (sym c.loop-number.invariant.view)
    (among_all c.args.view heap _ c.loop-number.classes.table.entries c.requires.low
    (all_classes c.args.view c.loop-number.classes.view c.loop-number.invariant.view _ heap c.args.indexed.now _
    c.deref-number-items.ensures.value c.loop-number.classes.table.entries c.loop-number.number-index are
    c.loop-number-test.false (c.loop-number.invariant.among heap are)) (omega (arith, are.are.stand.count)))

pub returns-clause-few : goal.returns-clause-few
returns-clause-few g c =
    let (heap, are) = c.requires.heap in
    (all_classes c.args.view c.loop-number.classes.view c.loop-number.invariant.view _ heap c.args.indexed.now _
    c.deref-number-items.ensures.value c.loop-number.classes.table.entries c.loop-number.number-index are
    c.loop-number-test.false (c.loop-number.invariant.among heap are)).few
