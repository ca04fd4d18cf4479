-- The worker stays in its pool, and is not idle.
use Rattle.std.proofs.Common.{◌≡◌, ◌≤◌}
use Rattle.pool_bench.proofs.turns.take_turns.Given as goal

abbrev pub invariant-loop : goal.invariant-loop
invariant-loop g l = (l.worker.pool ≡ l.initial.worker.pool) × (l.moved ≤ l.counter) × (l.worker.book.account.idle ≡ 0)
