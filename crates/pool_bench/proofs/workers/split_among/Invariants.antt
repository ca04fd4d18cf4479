-- So far there is a worker for each unit that the first worker gave away. All are of the first worker's pool.
use Rattle.std.proofs.Common.{◌≡◌, ◌+◌, All, vec_len}
use Rattle.pool_bench.specs.Owners.{SamePool}
use Rattle.pool_bench.proofs.workers.split_among.Given as goal

abbrev pub invariant-loop-number : goal.invariant-loop-number
invariant-loop-number l =
    SamePool l.initial.first l.first × (l.first.book.account.share + l.number ≡ l.initial.first.book.account.share + 1)
    × (vec_len l.workers + 1 ≡ l.number) × All (λ w. SamePool l.initial.first w.worker) l.workers.items
