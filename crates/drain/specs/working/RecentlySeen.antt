-- What a worker remembers of the objects that it saw marked.
use Rattle.std.specs.Prelude.{Contains, slice_index, ℕ, ◌%◌, ◌≡◌}
use Rattle.buffer_pool.specs.Calls.{Owner}
use Rattle.drain.specs.declared.recently_seen.RecentlySeen.{RecentlySeen}

-- The object `o` is in its entry of `table`.
abbrev pub IsNoted : RecentlySeen → ℕ → Type 0
IsNoted table o = slice_index table.objects (o % 4096) ≡ o

-- The worker saw each object of the table marked.
abbrev pub HasSeenAll : RecentlySeen → Owner → Type 0
HasSeenAll table w = (o : ℕ) → IsNoted table o → Contains w.book.account.seen o
