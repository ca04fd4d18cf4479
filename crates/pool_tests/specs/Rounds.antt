-- What is required of a worker that goes through its part of the objects in rounds.
use Rattle.std.specs.Prelude.{◌≡◌, ℕ, List, [], ◌∷◌}
use Rattle.std.specs.List.{range_with_len}
use Rattle.mark_core.specs.Lists.{times}
use Rattle.buffer_pool.specs.Calls.{Owner, HeldBuffer}

-- the numbers below n
unfoldable pub numbers : ℕ → List ℕ
numbers n = range_with_len 0 n

-- a worker of the same pool, with the same setup, share and idle number
pub record IsSameWorker (old new : Owner) : Type 0 where
  pub pool : new.pool ≡ old.pool
  pub setup : new.book.setup ≡ old.book.setup
  pub share : new.book.account.share ≡ old.book.account.share
  pub idle : new.book.account.idle ≡ old.book.account.idle

-- there are n objects, which are all roots, and none has a successor
pub record HasRoots (n : ℕ) (w : Owner) : Type 0 where
  pub objects : w.book.setup.objects ≡ n
  pub roots : w.book.setup.roots ≡ numbers n
  pub pairs : w.book.setup.pairs ≡ []

-- the worker holds no buffer, has nothing in its charge, and is not idle
pub record HasNone (w : Owner) : Type 0 where
  pub held : w.book.account.held ≡ []
  pub charge : w.book.account.charge ≡ []
  pub awake : w.book.account.idle ≡ 0

-- the worker holds only the buffer h, is charged with exactly the items of h, and is not idle
pub record HasOne (w : Owner) (h : HeldBuffer) : Type 0 where
  pub held : w.book.account.held ≡ h.index ∷ []
  pub charge : (o : ℕ) → times o w.book.account.charge ≡ times o h.items
  pub size : h.size ≡ w.book.setup.size
  pub awake : w.book.account.idle ≡ 0
