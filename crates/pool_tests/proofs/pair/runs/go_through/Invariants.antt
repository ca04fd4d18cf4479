-- Whatever was done so far, the worker is ready for the next step.
use Rattle.pool_tests.specs.Ready.{IsReady}
use Rattle.pool_tests.proofs.pair.runs.go_through.Given as goal

abbrev pub invariant-loop-step : goal.invariant-loop-step
invariant-loop-step g l = IsReady 400 l.pool l.worker l.pair
