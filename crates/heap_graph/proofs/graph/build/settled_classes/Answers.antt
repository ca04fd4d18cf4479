-- The fates are those of the classes of the table, and the table reads the bytes through the view that it was given.
use Rattle.heap_graph.proofs.Words.{HaveFates, Sight, arith, subst}
use Rattle.heap_graph.proofs.graph.build.settled_classes.Goals as goal

pub settle_all-requires-clause-few : goal.settle_all-requires-clause-few
settle_all-requires-clause-few g c = omega (arith, c.in_ok-classes.ensures.few, c.requires.few)

pub settle_all-requires-clause-heap : goal.settle_all-requires-clause-heap
settle_all-requires-clause-heap g c =
    (c.requires.heap.0, c.in_ok-classes.ensures.classes c.requires.heap.0 c.requires.heap.1)

pub returns : goal.returns
returns g c = λ heap are.
    let classes = c.in_ok-classes.ensures.classes heap are in
    subst
    (λ (v : Sight). HaveFates v heap c.in_ok-classes.classes.table.entries c.in_ok-fates.fates.items)
    c.in_ok-classes.ensures.view
    (record {
      classes = classes;
      settled = c.in_ok-fates.ensures heap classes;
      few = omega (arith, c.in_ok-classes.ensures.few, c.requires.few);
    })
