-- So far all tries were lost, and the worker did nothing else.
use Rattle.buffer_pool.proofs.Words.{Did, IsBusy, LostPops, lost_pops, ℕ, ◌≡◌}
use Rattle.buffer_pool.proofs.pool.Pool.pop.Given as goal

abbrev pub invariant-loop : goal.invariant-loop
invariant-loop g l =
    (l.worker.pool ≡ l.initial.worker.pool) × LostPops l.which l.initial.worker.book l.worker.book
    × ((lost : ℕ) × Did l.initial.worker.log (lost_pops l.which lost) l.worker.log)
    × IsBusy l.worker.book.account
