-- One more row adds its line exactly if it has a marked object. After the last number all rows were visited.
use Rattle.std.proofs.Common.{ap, arith, map, subst, sym, ◌∙◌, ◌<◌, ◌≡◌}
use Rattle.heap_graph.specs.Whole.{IsRowIn}
use Rattle.heap_graph.proofs.RowNumberLaws.{row_within}
use Rattle.histogram.specs.Histogram.{marked_objects, of_row, total}
use Rattle.histogram.specs.HistogramOf.{entry_of}
use Rattle.heap_graph.specs.RowNumbers.{row_count}
use Rattle.histogram.proofs.EntryLemmas.{all_entries, line_less, line_more}
use Rattle.histogram.proofs.report_rows.lines_by_number.Goals as goal
use Rattle.histogram.proofs.report_rows.lines_by_number.Goals.{else-count-gt0}
use Rattle.histogram.proofs.report_rows.lines_by_number.Goals.{then-count-gt0+in_ok-line+in_ok-push}

pub loop-number-preserved : goal.loop-number-preserved
loop-number-preserved g c =
    let graph = c.args.graph.now in
    let chosen = marked_objects graph c.args.marks.now.marks in
    let n = c.loop-number.number in
    let told = c.tally-count.result in
    let row = c.numbered-row in
    let is = c.tally-count.ensures ∙ c.requires.tallies row.result
    ∙ ap (λ r. total graph (of_row graph r chosen)) row.ensures in
    let lines = c.loop-number.lines.items in
    elim c.if-count-gt0.branch [
      | then-count-gt0+in_ok-line+in_ok-push w ↦
          ap (λ v. map entry_of v.items) w.lines-is
          ∙ line_more graph chosen entry_of lines n told.0 told.1 is c.loop-number.invariant w.push.new.self.items
          w.in_ok-line.line row.result w.if-count-gt0.true row.ensures w.in_ok-line.ensures
          w.in_ok-push.ensures.items
      | else-count-gt0 w ↦
          ap (λ v. map entry_of v.items) w.lines-is
          ∙ line_less graph chosen entry_of lines n told.0 told.1 is c.loop-number.invariant w.if-count-gt0.false
    ]

pub line_of_row-requires : goal.line_of_row-requires
line_of_row-requires g c =
    let graph = c.args.graph.now in
    let below : c.loop-number.number < row_count graph =
    omega (arith, c.loop-number-test.true, c.row_count-number-end.ensures.value) in
    subst (IsRowIn graph) (sym c.numbered-row.ensures) (row_within graph c.loop-number.number below)

pub returns : goal.returns
returns g c =
    let graph = c.args.graph.now in
    let chosen = marked_objects graph c.args.marks.now.marks in
    let all : c.loop-number.number ≡ row_count graph =
    omega (arith, c.loop-number-test.false, c.loop-number.auto.number-end, c.row_count-number-end.ensures.value) in
    all_entries graph chosen (map entry_of c.loop-number.lines.items) c.loop-number.number all c.loop-number.invariant
