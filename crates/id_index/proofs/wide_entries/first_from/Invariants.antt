-- The first entry whose identifier is not below `id` is between the two ends.
use Rattle.id_index.specs.working.WideEntries.{IsBetween}
use Rattle.id_index.proofs.Words.{◌-◌}
use Rattle.id_index.proofs.wide_entries.first_from.Given as goal

abbrev pub invariant-loop-low : goal.invariant-loop-low
invariant-loop-low g l = IsBetween l.entries l.id l.low l.high

abbrev pub decreases-loop-low : goal.decreases-loop-low
decreases-loop-low g l = l.high - l.low
