-- A buffer of the empty stack has no items, and a worker with idle number 0 is busy.
use Rattle.std.proofs.Common.{inr}
use Rattle.pool_bench.proofs.Owners.{may_push}
use Rattle.pool_bench.proofs.turns.turn.Goals as goal

pub push-requires-clause-may : goal.push-requires-clause-may
push-requires-clause-may g c =
    may_push c.args.worker.now.book c.pop.new.worker.book c.in-Took.held c.in-Took.ensures.pops c.requires.awake

pub pop-requires-clause-busy : goal.pop-requires-clause-busy
pop-requires-clause-busy g c = inr c.requires.awake
