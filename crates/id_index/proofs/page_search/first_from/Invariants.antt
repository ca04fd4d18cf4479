-- The extent is between the two ends, and a probe remains for each extent on the way to either. On the way up, the
-- extents that were passed have smaller pages.
use Rattle.id_index.proofs.Words.{IsAround, page_in, ℕ, ◌+◌, ◌-◌, ◌<◌, ◌≤◌}
use Rattle.id_index.proofs.page_search.first_from.Given as goal

abbrev pub invariant-loop-at : goal.invariant-loop-at
invariant-loop-at l = IsAround l.extents l.page l.low l.high × (l.low ≤ l.at) × (l.at ≤ l.high)
    × (l.high ≤ l.low + 64) × (l.at + 64 ≤ l.low + l.probes.left)

abbrev pub decreases-loop-at : goal.decreases-loop-at
decreases-loop-at l = l.at - l.low

abbrev pub invariant-loop-at-2 : goal.invariant-loop-at-2
invariant-loop-at-2 l =
    IsAround l.extents l.page l.low l.high × (l.at ≤ l.high) × ((k : ℕ) → k < l.at → page_in l.extents k < l.page)
    × (l.high ≤ l.at + l.probes.left)

abbrev pub decreases-loop-at-2 : goal.decreases-loop-at-2
decreases-loop-at-2 l = l.high - l.at
