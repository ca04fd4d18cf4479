-- Each slot made so far has its buffer.
use Rattle.std.proofs.Common.{◌≡◌, ◌-◌, ◌≤◌, All, vec_len, vec_capacity}
use Rattle.buffer_pool.proofs.Words.{buffer_reading, IsFirstSlot}
use Rattle.buffer_pool.proofs.pool.slots.first_slots.Given as goal

abbrev pub decreases-loop-alloc : goal.decreases-loop-alloc
decreases-loop-alloc g l = l.buffers - vec_len l.slots

abbrev pub invariant-loop-alloc : goal.invariant-loop-alloc
invariant-loop-alloc g l = record {
  room : vec_capacity l.slots ≡ l.buffers;
  within : vec_len l.slots ≤ l.buffers;
  slots : All (IsFirstSlot buffer_reading l.size) l.slots.items;
}
