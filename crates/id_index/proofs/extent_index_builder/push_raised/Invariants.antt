-- The old extents are followed by the extents so far, raised, and there is room for the rest.
use Rattle.id_index.proofs.Words.{length, map, raised_by, take, vec_capacity, vec_len, ◌++◌, ◌+◌, ◌-◌, ◌≡◌, ◌≤◌}
use Rattle.id_index.proofs.extent_index_builder.push_raised.Given as goal

abbrev pub invariant-loop-extent : goal.invariant-loop-extent
invariant-loop-extent g l = record {
  so_far : l.extents.items ≡ l.fn.extents.items ++ map (raised_by l.by) (take l.extent-index l.more);
  room : vec_len l.extents + (length l.more - l.extent-index) ≤ vec_capacity l.extents;
}
