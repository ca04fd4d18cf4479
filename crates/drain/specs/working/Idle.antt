-- What a worker does while it waits for others, step by step.
use Rattle.std.specs.Prelude.{false, true, ℕ, ◌+◌, ◌<◌, ◌≡◌, ◌≢◌, ◌⊎◌}
use Rattle.mark_core.specs.declared.which.Which.TheVariants.{Full}
use Rattle.buffer_pool.specs.Book.{Book, idle_loaded, idled, woken}
use Rattle.buffer_pool.specs.Calls.{Owner, Sees}

-- The worker has the one unit that it was started with, and is not idle.
pub record IsAwake (w : Owner) : Type 0 where
  pub share : w.book.account.share ≡ 1
  pub idle : w.book.account.idle ≡ 0

-- A turn in vain: the worker loaded the idle word, which was not the number of workers, and then the head of the full
-- stack, which had no buffer.
abbrev pub TurnsInVain : ℕ → Book → Book → Type 0
TurnsInVain workers old new = (word : ℕ) × (word ≢ workers) × Sees Full (idle_loaded word old) new true

-- The worker made `turns` turns in vain, and nothing else.
pub data WaitsInVain (workers : ℕ) : ℕ → Book → Book → Type 0 where
  none : (b : Book) → WaitsInVain workers 0 b b
  more : (turns : ℕ) (old mid new : Book) → WaitsInVain workers turns old mid → TurnsInVain workers mid new
      → WaitsInVain workers (turns + 1) old new

-- The worker went idle and made turns in vain: fewer than `turns`, until it loaded the number of workers from the idle
-- word; or `turns` turns. It is still idle.
abbrev pub HasWaited : ℕ → ℕ → Book → Book → Type 0
HasWaited workers turns old new =
    ((made : ℕ) × (mid : Book) × (made < turns) × WaitsInVain workers made (idled old) mid
    × (new ≡ idle_loaded workers mid))
    ⊎ WaitsInVain workers turns (idled old) new

-- The worker went idle and made turns in vain, fewer than `turns`. In the next turn not all workers were idle and the
-- full stack had a buffer, and it came back.
abbrev pub HasFoundMore : ℕ → ℕ → Book → Book → Type 0
HasFoundMore workers turns old new =
    (made : ℕ) × (mid : Book) × (word : ℕ) × (looked : Book)
    × (made < turns) × WaitsInVain workers made (idled old) mid
    × (word ≢ workers) × Sees Full (idle_loaded word mid) looked false × (new ≡ woken looked)
