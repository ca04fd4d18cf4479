-- The two numbers as they are laid out, the name and the end of the line follow one another.
use Rattle.std.proofs.Common.{ap, sym, is_ok, ◌∙◌}
use Rattle.std.specs.Fmt.{styled_decimal}
use Rattle.histogram.proofs.LineText.{from_ok, line_appended}
use Rattle.histogram.proofs.report_text.append_line.Goals as goal

pub returns : goal.returns
returns g c =
    let was_ok = sym c.map_err.ensures.variant ∙ ap (λ r. is_ok r) c.in_ok-map_err.was in
    line_appended c.args.out.now.items (styled_decimal c.laid_out.result c.args.count)
    (styled_decimal c.laid_out-2.result c.args.bytes) c.write.new.self.items c.extend_from_slice.new.self.items
    c.push.new.self.items c.args.count c.args.bytes c.args.name.now
    (ap (λ s. styled_decimal s c.args.count) c.laid_out.ensures)
    (ap (λ s. styled_decimal s c.args.bytes) c.laid_out-2.ensures) (from_ok c.write.result was_ok c.write.ensures.bytes)
    c.in_ok-extend_from_slice.ensures.items c.in_ok-push.ensures.items
