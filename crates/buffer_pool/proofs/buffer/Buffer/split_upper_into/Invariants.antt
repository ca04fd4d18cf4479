-- The objects moved so far are those after the lower half.
use Rattle.std.proofs.Common.{◌≡◌, ◌+◌, ◌-◌, vec_len, take, drop}
use Rattle.buffer_pool.proofs.buffer.Buffer.split_upper_into.Given as goal

abbrev pub invariant-loop-at : goal.invariant-loop-at
invariant-loop-at g l =
    (l.other.items.items ≡ take (l.at - l.lower) (drop l.lower l.self.items.items))
    × (vec_len l.other.items + l.lower ≡ l.at) × (l.other.size ≡ l.initial.other.size)
