-- The empty set is a hyphen, any other its number less 1.
use Rattle.std.proofs.Common.{ap, is_ok, sym, ◌∙◌}
use Rattle.histogram.proofs.LineText.{from_ok}
use Rattle.held_table.proofs.TextLaws.{labels_appended, no_label_appended}
use Rattle.held_table.proofs.text.append_set.Goals as goal

pub returns-then-set-eq0 : goal.returns-then-set-eq0
returns-then-set-eq0 g c =
    no_label_appended c.args.out.now.items c.args.set c.if-set-eq0.true c.in_ok-push.ensures.items

pub returns : goal.returns
returns g c =
    let was_ok = sym c.map_err.ensures.variant ∙ ap (λ r. is_ok r) c.in_ok-map_err.was in
    labels_appended c.args.out.now.items c.args.set c.if-set-eq0.false
    (from_ok c.write.result was_ok c.write.ensures.bytes)
