-- How a table fits its setup, and what a worker is known to have between two calls.
use Rattle.std.specs.Prelude.{◌≡◌, ◌+◌, ◌<◌, ◌≤◌, [], Option, All}
use Rattle.atomic_table.specs.Table.{Me}
use Rattle.atomic_table.specs.Seated.{TableId}
use Rattle.atomic_table.specs.declared.shared.Seat.{Seat}
use Rattle.atomic_table.specs.declared.shared.Shared.{Shared}
use Rattle.mark_core.specs.World.{Setup}
use Rattle.buffer_pool.specs.declared.key.Key.{Key}
use Rattle.buffer_pool.specs.declared.seat_view.SeatView.{SeatView}
use Rattle.buffer_pool.specs.Ranges.{IsWithin}
use Rattle.buffer_pool.specs.WorkerLog.{LeadsToBook}
use Rattle.buffer_pool.specs.working.MarkBits.{mark_words}
use Rattle.buffer_pool.specs.working.Setups.{setup_of}
use Rattle.buffer_pool.specs.working.Slots.{Carries}
use Rattle.buffer_pool.specs.working.Views.{HasSaidAll}

-- the table has the words and slots of the setup. The setup's numbers of buffers and objects are in their ranges, and
-- its roots and references are of objects
pub record IsLaid (t : TableId) (e : Setup) : Type 0 where
  pub words : t.words ≡ 32 + e.buffers + mark_words e.objects
  pub slots : t.slots ≡ e.buffers
  pub few : 4 ≤ e.buffers
  pub many : e.buffers ≤ 65534
  pub objects : e.objects ≤ 16777216
  pub roots : All (λ o. o < e.objects) e.roots
  pub pairs : All (λ p. (p.0 < e.objects) × (p.1 < e.objects)) e.pairs

-- the invariant of a worker's seat between two calls
pub record IsSound {B : Type 0} (t : TableId) (m : Me (Option B) SeatView) : Type 0 where
  pub laid : IsLaid t m.0.book.setup
  pub share : 0 < m.0.book.account.share
  pub carries : Carries m
  pub within : IsWithin m.0.book.setup m.0.book.account
  pub all_said : HasSaidAll m.0
  pub story : LeadsToBook m.0.log m.0.book

-- a seat of the table, which is laid for the setup of its key
pub record SitsAt
    {B P : Type 0} (words : Shared (Option B) SeatView Key P) (seat : Seat (Option B) SeatView) : Type 0 where
  pub same : seat.table_id ≡ words.table_id
  pub laid : IsLaid words.table_id (setup_of words.key)

-- a seat keeps its table and its number
pub record IsSameSeat {B : Type 0} (old new : Seat (Option B) SeatView) : Type 0 where
  pub table : new.table_id ≡ old.table_id
  pub number : new.id ≡ old.id

-- no slot is out with the seat
pub record IsBare {B : Type 0} (m : Me (Option B) SeatView) : Type 0 where
  pub slots : m.1 ≡ []
  pub out : m.0.out ≡ 0
