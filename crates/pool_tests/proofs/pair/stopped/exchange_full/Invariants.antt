-- After any number of exchanges the worker is still one of the pool.
use Rattle.pool_tests.specs.Ready.{IsWorker}
use Rattle.pool_tests.proofs.pair.stopped.exchange_full.Given as goal

abbrev pub invariant-loop : goal.invariant-loop
invariant-loop g l = IsWorker 400 l.pool l.worker
