-- A flaw in the static field of this turn is the flaw of reading all static fields.
use Rattle.hprof_grammar.proofs.Words.{arith, static_at, ◌<◌}
use Rattle.hprof_grammar.proofs.Counts.{list_stops}
use Rattle.hprof_grammar.proofs.sub_records.statics.Goals as goal

pub returns-in_err-static_field : goal.returns-in_err-static_field
returns-in_err-static_field c =
    let below : c.loop-i._i < c.in_ok-count.count = omega arith in
    let h = list_stops (static_at c.args.id_size) c.in_ok-count.count c.loop-i._i c.loop-i.reader.rest.now
    c.in_err-static_field.field-0.0 below c.in_err-static_field.ensures in
    grind (arith, h)
