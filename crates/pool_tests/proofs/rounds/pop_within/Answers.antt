-- A lost try changes nothing that is required of the worker.
use Rattle.std.proofs.Common.{inr}
use Rattle.pool_tests.proofs.RoundSteps.{found_none, lost_pop, same_again, same_worker, took}
use Rattle.pool_tests.proofs.rounds.pop_within.Goals as goal

pub loop-init : goal.loop-init
loop-init g c = (same_worker c.args.worker.now, c.requires.none)

pub loop-preserved : goal.loop-preserved
loop-preserved g c =
    let was = c.loop.invariant in
    let t = lost_pop c.loop.worker c.try_pop.new.worker c.try_pop.ensures.pool c.args.which was.1
    c.in-Lost.ensures.pops in (same_again c.args.worker.now c.loop.worker c.try_pop.new.worker was.0 t.0, t.1)

pub returns-in-Took : goal.returns-in-Took
returns-in-Took g c =
    let was = c.loop.invariant in
    let t = took c.loop.worker c.try_pop.new.worker c.try_pop.ensures.pool c.args.which c.in-Took.held was.1
    c.in-Took.ensures.pops in
    record { same = same_again c.args.worker.now c.loop.worker c.try_pop.new.worker was.0 t.0; held = t.1 }

pub returns-in-Empty : goal.returns-in-Empty
returns-in-Empty g c =
    let was = c.loop.invariant in
    let t = found_none c.loop.worker c.try_pop.new.worker c.try_pop.ensures.pool c.args.which was.1
    c.in-Empty.ensures.pops in
    record { same = same_again c.args.worker.now c.loop.worker c.try_pop.new.worker was.0 t.0; held = t.1 }

pub try_pop-requires-clause-busy : goal.try_pop-requires-clause-busy
try_pop-requires-clause-busy g c = inr c.loop.invariant.1.awake
