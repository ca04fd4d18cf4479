-- The next string is at the next place, so its identifier follows those so far.
use Rattle.heap_graph.proofs.Words.{arith, string}
use Rattle.heap_graph.proofs.Adding.{one_more_added, still_takes, takes}
use Rattle.heap_graph.proofs.NameLookups.{text_at}
use Rattle.heap_graph.proofs.names.Names.strings_by_id.Goals as goal

pub string_id-requires : goal.string_id-requires
string_id-requires g c =
    let it = text_at _ _ _ _ _ c.requires.1 c.loop-at-test.true in (it.time, it.id, it.text, it.stands)

pub push-requires-clause-fits : goal.push-requires-clause-fits
push-requires-clause-fits g c = takes _ _ c.loop-at.invariant.takes

pub push-requires-clause-few : goal.push-requires-clause-few
push-requires-clause-few g c =
    omega (arith, c.loop-at.invariant.added.count_is, c.loop-at-test.true, c.requires.1.few_strings)

pub loop-at-preserved : goal.loop-at-preserved
loop-at-preserved g c = record {
  takes = still_takes _ _ c.loop-at.invariant.takes c.in_ok-push.ensures.shift c.in_ok-push.ensures.low;
  added = one_more_added _ c.in_ok-push.ensures.ids c.loop-at.invariant.added (λ records are.
      let it = text_at _ _ _ _ _ are c.loop-at-test.true in
      (string it.time it.id it.text, it.here, c.string_id.ensures it.time it.id it.text it.stands));
}
