-- Zeros are added at the end, so the bytes that were read stay. The length stays within the limit.
use Rattle.std.proofs.Common.{take, vec_len, ◌-◌, ◌≡◌, ◌≤◌}
use Rattle.histogram.proofs.read_to_limit.make_room.Given as goal

abbrev pub invariant-loop-bytes : goal.invariant-loop-bytes
invariant-loop-bytes g l =
    (l.filled ≤ vec_len l.bytes) × (vec_len l.bytes ≤ l.limit)
    × (take l.filled l.bytes.items ≡ take l.filled l.initial.bytes.items)

abbrev pub decreases-loop-bytes : goal.decreases-loop-bytes
decreases-loop-bytes g l = l.end - vec_len l.bytes
