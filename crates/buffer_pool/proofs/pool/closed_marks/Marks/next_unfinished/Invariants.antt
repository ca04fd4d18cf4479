-- The first object that is not finished is the first from the current object on.
use Rattle.std.proofs.Common.{◌≡◌, ◌-◌, ◌==◌, length, not, slice_index}
use Rattle.buffer_pool.proofs.Finding.{first_from}
use Rattle.buffer_pool.proofs.pool.closed_marks.Marks.next_unfinished.Given as goal

abbrev pub decreases-loop-object : goal.decreases-loop-object
decreases-loop-object g l = length l.self - l.object

abbrev pub invariant-loop-object : goal.invariant-loop-object
invariant-loop-object g l =
    first_from (λ o. not (slice_index l.self o == 2)) l.from (length l.self)
    ≡ first_from (λ o. not (slice_index l.self o == 2)) l.object (length l.self)
