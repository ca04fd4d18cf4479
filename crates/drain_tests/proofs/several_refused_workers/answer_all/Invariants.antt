-- `number` threads were started, each with a unit of the leader's. The leader has finished no more than before.
use Rattle.std.proofs.Common.{◌≡◌, ◌≤◌, length, vec_len, vec_capacity}
use Rattle.drain.specs.working.Duties.{HasStarted}
use Rattle.drain_tests.proofs.several_refused_workers.answer_all.Given as goal

abbrev pub invariant-loop-number : goal.invariant-loop-number
invariant-loop-number g l =
    (vec_len l.threads ≡ l.number) × (length l.stops ≤ vec_capacity l.threads)
    × HasStarted l.graph (λ t. t.promise) l.initial.leader l.leader l.threads.items l.number
