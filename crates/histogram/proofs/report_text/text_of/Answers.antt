-- The lines of the rows and the last three lines are the report.
use Rattle.histogram.specs.HistogramOf.{entry_of}
use Rattle.histogram.proofs.LineText.{rows_told, three_more}
use Rattle.histogram.proofs.report_text.text_of.Goals as goal

pub returns : goal.returns
returns g c =
    three_more _ _ _ (rows_told entry_of c.loop-row.row-index c.deref-row-items.ensures.value c.loop-row-test.false
    c.loop-row.invariant)
    c.in_ok-append_line-2.ensures c.in_ok-append_line-3.ensures c.in_ok-append_line-4.ensures
