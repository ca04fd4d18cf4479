-- What the words of marks never have.
use Rattle.std.specs.Prelude.{◌≡◌, ℕ, ◌+◌, ◌*◌, ◌%◌, ◌<◌, Option, slice_index}
use Rattle.std.specs.Int.{bit_at}
use Rattle.atomic_table.specs.Table.{State}
use Rattle.mark_core.specs.World.{Setup}
use Rattle.buffer_pool.specs.declared.seat_view.SeatView.{SeatView}
use Rattle.buffer_pool.specs.working.Layout.{mark_word}
use Rattle.buffer_pool.specs.working.Slots.{Reading}
use Rattle.buffer_pool.specs.working.Table.{Rule}

-- between any two steps an object whose high bit is set has its low bit set: its bits are never 10
abbrev pub LowWithHigh : {B : Type 0} → Reading B → Type 0
LowWithHigh {B} r =
    (e : Setup) (s : State (Option B) SeatView) → Rule r e s → (o : ℕ) → o < e.objects
    → bit_at (slice_index s.words (mark_word e o)) (2 * (o % 32) + 1) ≡ 1
    → bit_at (slice_index s.words (mark_word e o)) (2 * (o % 32)) ≡ 1
