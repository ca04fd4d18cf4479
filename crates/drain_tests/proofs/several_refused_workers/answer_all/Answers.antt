-- Each worker has finished nothing, so its tally is of no object; the leader gave it a unit, and finished nothing.
use Rattle.std.proofs.Common.{ap, arith, rules, sym}
use Rattle.buffer_pool.specs.Calls.{Owner}
use Rattle.drain.proofs.Scanning.{same_tally}
use Rattle.drain.proofs.Starting.{one_more_started}
use Rattle.drain_tests.proofs.several_refused_workers.answer_all.Goals as goal

pub answer-requires-clause-tally : goal.answer-requires-clause-tally
answer-requires-clause-tally g c =
    let none = c.in_ok-tally.ensures (g.V.Measured.measure c.args.graph.now) (sym c.rows.ensures) in
    let had = same_tally (ap (λ (h : Owner). h.book.account.finished) c.split-rest.ensures.second) none in
    search (rules, had)

pub loop-number-preserved : goal.loop-number-preserved
loop-number-preserved g c =
    let was = c.loop-number.invariant in
    let split = c.split-rest in
    let owes = c.in_ok-thread.ensures in
    let pushed = c.push_reserved in (
      omega (arith, pushed.ensures.len, was.0),
      omega (arith, pushed.ensures.capacity, was.1),
      one_more_started was.2 (omega (arith, c.requires.share, c.loop-number-test.true))
          (omega (arith, c.loop-number.threads.ok, was.0)) pushed.ensures.items split.ensures.first
          split.ensures.second owes.owes owes.graph,
    )
