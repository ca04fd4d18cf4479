-- The range has the first extent of the page, it shrinks with each probe, and there are probes for all halvings.
use Rattle.id_index.proofs.Words.{IsAround, ◌*◌, ◌-◌, ◌^◌, ◌≤◌}
use Rattle.id_index.proofs.page_search.narrow.Given as goal

abbrev pub invariant-loop-high : goal.invariant-loop-high
invariant-loop-high l = IsAround l.extents l.page l.low l.high × (l.high - l.low ≤ 64 * 2 ^ l.probes.left)

abbrev pub decreases-loop-high : goal.decreases-loop-high
decreases-loop-high l = l.high - l.low
