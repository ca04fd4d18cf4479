-- A byte that is not plain is written as its two hexadecimal digits.
use Rattle.std.proofs.Common.{ap, sym, is_ok, ◌∙◌}
use Rattle.histogram.proofs.LineText.{escaped, from_ok}
use Rattle.histogram.proofs.names.append_shown_byte.Goals as goal

pub returns : goal.returns
returns g c =
    let was_ok = sym c.map_err.ensures.variant ∙ ap (λ r. is_ok r) c.in_ok-map_err.was in
    escaped c.args.out.now.items c.write.new.self.items c.args.byte c.ranges.byte.fits
    (sym c.is_plain_byte.ensures ∙ c.if-is_plain_byte.false)
    (from_ok c.write.result was_ok (rw (c.laid_out.ensures, c.in_radix.ensures) at c.write.ensures.bytes))
