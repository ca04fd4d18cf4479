-- Whatever was popped so far, it is still a worker of this pool.
use Rattle.pool_tests.specs.Ready.{IsWorker}
use Rattle.pool_tests.proofs.pair.trace.buffers_on.Given as goal

abbrev pub invariant-loop-position : goal.invariant-loop-position
invariant-loop-position g l = IsWorker 400 l.pool l.worker
