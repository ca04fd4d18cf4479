-- So far all tries were lost, each returned the buffer, and the worker did nothing else.
use Rattle.buffer_pool.proofs.Words.{Did, List, LostPushes, MayPush, Option, lost_pushes, ℕ, ◌≡◌}
use Rattle.buffer_pool.proofs.pool.Pool.push.Given as goal

abbrev pub invariant-loop : goal.invariant-loop
invariant-loop g l =
    (l.worker.pool ≡ l.initial.worker.pool) × (l.held ≡ l.initial.held) × MayPush l.which l.held l.worker.book
    × LostPushes l.which l.initial.held l.initial.worker.book l.worker.book
    × ((links : List (Option ℕ)) × Did l.initial.worker.log (lost_pushes l.which l.initial.held links) l.worker.log)
