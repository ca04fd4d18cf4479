-- One more line is a line about its entry.
use Rattle.heapmark.proofs.UnmetLines.{one_more}
use Rattle.heapmark.proofs.unmet_skips.tell_unmet.Goals as goal

pub loop-entry-preserved-then-not-is_met : goal.loop-entry-preserved-then-not-is_met
loop-entry-preserved-then-not-is_met g c =
    one_more _ (g.E.Write.contents c.loop-entry.err) _ c.in-Some.entry.now c.loop-entry.invariant c.tell_entry.ensures
