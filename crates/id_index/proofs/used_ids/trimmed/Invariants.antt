-- The two ends come nearer to one another within the pages.
use Rattle.std.proofs.Common.{length, ◌-◌, ◌≤◌}
use Rattle.id_index.proofs.used_ids.trimmed.Given as goal

abbrev pub invariant-loop-begin : goal.invariant-loop-begin
invariant-loop-begin l = l.begin ≤ length l.pages

abbrev pub decreases-loop-begin : goal.decreases-loop-begin
decreases-loop-begin l = length l.pages - l.begin

abbrev pub invariant-loop-end : goal.invariant-loop-end
invariant-loop-end l = (l.begin ≤ l.end) × (l.end ≤ length l.pages)

abbrev pub decreases-loop-end : goal.decreases-loop-end
decreases-loop-end l = l.end - l.begin
