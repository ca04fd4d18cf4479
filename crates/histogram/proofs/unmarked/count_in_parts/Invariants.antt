-- The totals are those of the parts, and the parts so far are counted.
use Rattle.std.proofs.Common.{ℕ, ◌*◌, drop}
use Rattle.histogram.proofs.PartTotals.{AreTotalsOfParts}
use Rattle.histogram.proofs.UnmarkedLaws.{HasCounted}
use Rattle.histogram.proofs.unmarked.count_in_parts.Given as goal

abbrev pub invariant-loop-part : goal.invariant-loop-part
invariant-loop-part g l = (size : ℕ) × AreTotalsOfParts l.graph l.numbers size l.part-items
    × HasCounted l.graph l.numbers (drop (l.part-index * size) l.numbers) l.left
