-- What the tests require of a worker and its pair.
use Rattle.std.specs.Prelude.{◌≡◌, ℕ, []}
use Rattle.buffer_pool.specs.Calls.{Owner, PoolId}
use Rattle.work_pair.specs.PairState.{PairState, IsOpen, IsBacked}
use Rattle.pool_tests.specs.Rounds.{numbers}

-- a worker of the pool whose table is `pool`. The pool's roots are the n numbers from 0 on, and the worker is not idle
pub record IsWorker (n : ℕ) (pool : PoolId) (w : Owner) : Type 0 where
  pub same : w.pool ≡ pool
  pub roots : w.book.setup.roots ≡ numbers n
  pub idle : w.book.account.idle ≡ 0

-- such a worker, with an open pair that it backs
pub record IsReady (n : ℕ) (pool : PoolId) (w : Owner) (p : PairState) : Type 0 where
  pub worker : IsWorker n pool w
  pub going : IsOpen p
  pub backed : IsBacked p [] w.book
