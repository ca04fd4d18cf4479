-- A pop keeps the worker's setup and its idle number.
use Rattle.pool_tests.proofs.Readiness.{popped_worker}
use Rattle.pool_tests.proofs.pair.trace.pop_one.Goals as goal
use Rattle.buffer_pool.specs.declared.answers.Popped.TheVariants as pop

pub returns-in-Took : goal.returns-in-Took
returns-in-Took g c =
    popped_worker 400 c.args.pool.now c.args.which c.args.worker.now c.pop.new.worker (pop.Took c.in-Took.held)
    c.requires c.pop.ensures.pool c.in-Took.ensures.pops

pub returns-in-Empty : goal.returns-in-Empty
returns-in-Empty g c =
    popped_worker 400 c.args.pool.now c.args.which c.args.worker.now c.pop.new.worker pop.Empty
    c.requires c.pop.ensures.pool c.in-Empty.ensures.pops
