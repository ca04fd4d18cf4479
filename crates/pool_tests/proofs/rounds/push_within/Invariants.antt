-- Each try so far returned the buffer.
use Rattle.std.proofs.Common.{◌≡◌}
use Rattle.pool_tests.specs.Rounds.{HasOne, IsSameWorker}
use Rattle.pool_tests.proofs.rounds.push_within.Given as goal

abbrev pub invariant-loop : goal.invariant-loop
invariant-loop g l = IsSameWorker l.initial.worker l.worker × HasOne l.worker l.held × (l.held ≡ l.initial.held)
