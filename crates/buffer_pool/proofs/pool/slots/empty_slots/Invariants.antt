-- The slots before the current one are empty, and the others are not.
use Rattle.std.proofs.Common.{◌≡◌, ℕ, ◌<◌, ◌≤◌, false, true, get_or}
use Rattle.std.specs.Slots.{slots_filled, slots_len}
use Rattle.buffer_pool.specs.Closing.{IsEmptied}
use Rattle.buffer_pool.proofs.pool.slots.empty_slots.Given as goal

abbrev pub invariant-loop-slot : goal.invariant-loop-slot
invariant-loop-slot g l =
    record {
      words : l.closed.words ≡ l.initial.closed.words;
      count : slots_len l.closed.slots ≡ slots_len l.initial.closed.slots;
      later : (k : ℕ) → l.slot ≤ k → k < slots_len l.closed.slots → get_or (slots_filled l.closed.slots) k false ≡ true;
      earlier : IsEmptied l.slot (slots_filled l.closed.slots);
    }
