-- Between two objects the worker is ready, with a pair that it backs.
use Rattle.pool_tests.specs.Ready.{IsReady}
use Rattle.pool_tests.proofs.pair.threads.get_rest.Given as goal

abbrev pub invariant-loop : goal.invariant-loop
invariant-loop g l = IsReady 400 l.pool l.worker l.pair
