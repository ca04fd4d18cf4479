-- The text is the line.
use Rattle.std.proofs.Common.{List, subst, ℕ, ◌≡◌, ◌∙◌}
use Rattle.heapmark.specs.UnmetEntries.{unmet_line}
use Rattle.histogram.specs.Counting.{AppendsBeginning}
use Rattle.heapmark.proofs.unmet_skips.tell_entry.Goals as goal

pub returns-in-Ok : goal.returns-in-Ok
returns-in-Ok g c =
    let line : c.as_bytes.result.now ≡ unmet_line c.args.entry.now = c.as_bytes.ensures.value ∙ c.in-Ok.ensures in
    subst (λ (bytes : List ℕ). AppendsBeginning (g.E.Write.contents c.args.err.now)
    (g.E.Write.contents c.write_beginning.new.err) bytes) line c.write_beginning.ensures
