-- The text so far has the lines of the first rows.
use Rattle.std.proofs.Common.{◌≡◌, flat_map, take}
use Rattle.histogram.specs.Report.{line_of}
use Rattle.histogram.specs.HistogramOf.{entry_of}
use Rattle.histogram.proofs.report_text.text_of.Given as goal

abbrev pub invariant-loop-row : goal.invariant-loop-row
invariant-loop-row g l = l.text.items ≡ flat_map (λ r. line_of (entry_of r)) (take l.row-index l.row-items)
