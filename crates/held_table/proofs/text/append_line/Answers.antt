-- Six pieces follow one another.
use Rattle.std.proofs.Common.{ap, subst, sym, ◌∙◌}
use Rattle.heap_graph.proofs.RowNumberLaws.{row_within}
use Rattle.heap_graph.specs.Whole.{IsRowIn}
use Rattle.histogram.specs.ShownNames.{shown_row}
use Rattle.held_table.proofs.TextLaws.{line_appended}
use Rattle.held_table.proofs.text.append_line.Goals as goal

pub row_name-requires : goal.row_name-requires
row_name-requires g c =
    subst (IsRowIn c.args.graph.now) (sym c.numbered.ensures) (row_within c.args.graph.now c.args.line.row c.requires)

pub returns : goal.returns
returns g c =
    line_appended c.args.out.now.items c.args.graph.now c.args.line c.as_slice.result.now
    (c.as_slice.ensures.value ∙ c.in_ok-name.ensures ∙ ap (shown_row c.args.graph.now) c.numbered.ensures)
    c.in_ok-append_numbers.ensures
    c.in_ok-append_set.ensures c.in_ok-extend_from_slice.ensures.items c.in_ok-extend_from_slice-2.ensures.items
    c.in_ok-push.ensures.items
