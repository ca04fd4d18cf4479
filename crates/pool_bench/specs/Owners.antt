-- Facts about the workers of a pool: roots, what they saw marked, and what a turn did.
use Rattle.std.specs.Prelude.{◌≡◌, ◌⊎◌, ℕ, ◌<◌, ◌≤◌, Bool, true, false, List, Contains}
use Rattle.std.specs.List.{range_with_len}
use Rattle.mark_core.specs.declared.which.Which.TheVariants.{Empty}
use Rattle.buffer_pool.specs.Book.{Book}
use Rattle.buffer_pool.specs.Calls.{Owner, HeldBuffer, Pops, Pushes}
use Rattle.buffer_pool.specs.declared.answers.Popped.TheVariants as pop
use Rattle.buffer_pool.specs.declared.answers.TryPushed.TheVariants as try_push

-- the numbers below n
unfoldable pub numbers : ℕ → List ℕ
numbers n = range_with_len 0 n

-- the numbers below n are roots of the worker's pool
abbrev pub AreRoots : ℕ → Owner → Type 0
AreRoots n w = (o : ℕ) → o < n → Contains w.book.setup.roots o

-- the worker saw each object from `from` to `to` - 1 marked
abbrev pub HasSeen : ℕ → ℕ → Owner → Type 0
HasSeen from to w = (o : ℕ) → from ≤ o → o < to → Contains w.book.account.seen o

-- two workers of one pool, with the same setup and the same idle number
pub record SamePool (one other : Owner) : Type 0 where
  pub pool : other.pool ≡ one.pool
  pub setup : other.book.setup ≡ one.book.setup
  pub idle : other.book.account.idle ≡ one.book.account.idle

-- for true, a buffer was popped from the empty stack and pushed there; for false, there was none, or the pop or the
-- push loaded the last tag
abbrev pub PopsAndPushes : Book → Book → Bool → Type 0
PopsAndPushes old new true =
    (mid : Book) × (h : HeldBuffer) × Pops Empty old mid (pop.Took h) × Pushes Empty h mid new try_push.Done
PopsAndPushes old new false =
    Pops Empty old new pop.Empty ⊎ Pops Empty old new pop.Spent
    ⊎ ((mid : Book) × (h : HeldBuffer) × (back : HeldBuffer) × Pops Empty old mid (pop.Took h)
    × Pushes Empty h mid new (try_push.Spent back))
