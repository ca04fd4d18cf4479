-- The rows so far that have a marked object have their lines.
use Rattle.std.proofs.Common.{map, ◌≡◌}
use Rattle.histogram.specs.Histogram.{marked_objects}
use Rattle.histogram.specs.HistogramOf.{entry_of}
use Rattle.histogram.specs.working.RowNumbers.{entries_below}
use Rattle.histogram.proofs.report_rows.lines_by_number.Given as goal

abbrev pub invariant-loop-number : goal.invariant-loop-number
invariant-loop-number g l =
    map entry_of l.lines.items ≡ entries_below l.graph (marked_objects l.graph l.marks.marks) l.number
