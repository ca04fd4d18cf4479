-- The next loaded class is at the next place, so its identifier follows those so far.
use Rattle.heap_graph.proofs.Words.{arith, load_class}
use Rattle.heap_graph.proofs.Adding.{one_more_added, still_takes, takes}
use Rattle.heap_graph.proofs.NameLookups.{loaded_at}
use Rattle.heap_graph.proofs.names.Names.loaded_by_id.Goals as goal

pub loaded_class_id-requires : goal.loaded_class_id-requires
loaded_class_id-requires g c =
    let it = loaded_at _ _ _ _ _ c.requires.1 c.loop-at-test.true in
    (it.time, it.serial, it.class, it.stack, it.name, it.stands)

pub push-requires-clause-fits : goal.push-requires-clause-fits
push-requires-clause-fits g c = takes _ _ c.loop-at.invariant.takes

pub push-requires-clause-few : goal.push-requires-clause-few
push-requires-clause-few g c =
    omega (arith, c.loop-at.invariant.added.count_is, c.loop-at-test.true, c.requires.1.few_loaded)

pub loop-at-preserved : goal.loop-at-preserved
loop-at-preserved g c = record {
  takes = still_takes _ _ c.loop-at.invariant.takes c.in_ok-push.ensures.shift c.in_ok-push.ensures.low;
  added = one_more_added _ c.in_ok-push.ensures.ids c.loop-at.invariant.added (λ records are.
      let it = loaded_at _ _ _ _ _ are c.loop-at-test.true in (
        load_class it.time it.serial it.class it.stack it.name,
        it.here,
        c.loaded_class_id.ensures it.time it.serial it.class it.stack it.name it.stands,
      ));
}
