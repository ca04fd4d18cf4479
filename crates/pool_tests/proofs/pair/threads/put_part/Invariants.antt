-- Whatever was put so far, the worker is ready for the next object.
use Rattle.pool_tests.specs.Ready.{IsReady}
use Rattle.pool_tests.proofs.pair.threads.put_part.Given as goal

abbrev pub invariant-loop-object : goal.invariant-loop-object
invariant-loop-object g l = IsReady 400 l.pool l.worker l.pair
