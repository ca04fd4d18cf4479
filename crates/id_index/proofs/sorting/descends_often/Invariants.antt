-- The extents that descend are no more than those that were looked at.
use Rattle.std.proofs.Common.{◌≤◌}
use Rattle.id_index.proofs.sorting.descends_often.Given as goal

abbrev pub invariant-loop-at : goal.invariant-loop-at
invariant-loop-at l = l.descents ≤ l.at
