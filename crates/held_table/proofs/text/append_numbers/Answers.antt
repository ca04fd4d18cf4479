-- The three numbers as they are laid out follow one another.
use Rattle.std.proofs.Common.{ap, is_ok, sym, ◌∙◌}
use Rattle.std.specs.Fmt.{styled_decimal}
use Rattle.histogram.proofs.LineText.{from_ok}
use Rattle.held_table.proofs.TextLaws.{numbers_appended}
use Rattle.held_table.proofs.text.append_numbers.Goals as goal

pub returns : goal.returns
returns g c =
    let was_ok = sym c.map_err.ensures.variant ∙ ap (λ r. is_ok r) c.in_ok-map_err.was in
    numbers_appended c.args.out.now.items (styled_decimal c.laid_out.result c.args.count)
    (styled_decimal c.laid_out-2.result c.args.bytes) (styled_decimal c.laid_out-3.result c.args.remainder)
    c.write.new.self.items c.args.count c.args.bytes c.args.remainder
    (ap (λ s. styled_decimal s c.args.count) c.laid_out.ensures)
    (ap (λ s. styled_decimal s c.args.bytes) c.laid_out-2.ensures)
    (ap (λ s. styled_decimal s c.args.remainder) c.laid_out-3.ensures)
    (from_ok c.write.result was_ok c.write.ensures.bytes)
