-- So far only lines about entries were printed.
use Rattle.heapmark.specs.UnmetEntries.{PrintsOnlyUnmet}
use Rattle.heapmark.proofs.unmet_skips.tell_unmet.Given as goal

abbrev pub invariant-loop-entry : goal.invariant-loop-entry
invariant-loop-entry g l = PrintsOnlyUnmet (g.E.Write.contents l.initial.err) (g.E.Write.contents l.err)
