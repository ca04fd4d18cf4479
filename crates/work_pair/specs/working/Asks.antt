-- What the parts of a call of a pair require of a worker, and of the positions.
use Rattle.std.specs.Prelude.{◌≡◌, ℕ, List, Option, None}
use Rattle.mark_core.specs.Events.{IsBusy}
use Rattle.mark_core.specs.Lists.{IsPart}
use Rattle.buffer_pool.specs.Book.{Book}
use Rattle.buffer_pool.specs.Calls.{HeldBuffer, Owner, PoolId}
use Rattle.work_pair.specs.PairState.{PairState, items_at, buffer_number, IsOfSize, IsBacked}

-- the worker of the book holds the buffer at a position, which is of its pool's size, and has its items in its charge
pub record IsBackedAt (position : Option HeldBuffer) (b : Book) : Type 0 where
  pub held : IsPart (buffer_number position) b.account.held
  pub charged : IsPart (items_at position) b.account.charge
  pub sized : IsOfSize b.setup.size position

-- a worker of the pool may push the buffer at a position, and the third position is vacant for a buffer that is left
-- over
pub record MayRenew (w : Owner) (pool : PoolId) (position third : Option HeldBuffer) : Type 0 where
  pub same : w.pool ≡ pool
  pub vacant : third ≡ None
  pub backed : IsBackedAt position w.book
  pub busy : IsBusy w.book.account

-- a worker of the pool may push each buffer of a pair, whose third position is vacant, and has also the objects
-- `besides` in its charge
pub record MayTrade (w : Owner) (pool : PoolId) (p : PairState) (besides : List ℕ) : Type 0 where
  pub same : w.pool ≡ pool
  pub third : p.third ≡ None
  pub backed : IsBacked p besides w.book
  pub busy : IsBusy w.book.account
