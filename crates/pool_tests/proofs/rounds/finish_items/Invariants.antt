-- The buffer has the objects that are still in the worker's charge.
use Rattle.std.proofs.Common.{length}
use Rattle.pool_tests.specs.Rounds.{HasOne, IsSameWorker}
use Rattle.pool_tests.proofs.rounds.finish_items.Given as goal

abbrev pub decreases-loop-object : goal.decreases-loop-object
decreases-loop-object g l = length l.held.items

abbrev pub invariant-loop-object : goal.invariant-loop-object
invariant-loop-object g l = IsSameWorker l.initial.worker l.worker × HasOne l.worker l.held
