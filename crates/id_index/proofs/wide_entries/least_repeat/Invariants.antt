-- `least` is the least repeat among the entries before this index.
use Rattle.id_index.proofs.Words.{length}
use Rattle.id_index.specs.working.WideEntries.{IsLeastRepeat}
use Rattle.id_index.proofs.wide_entries.least_repeat.Given as goal

abbrev pub invariant-loop-at : goal.invariant-loop-at
invariant-loop-at l = IsLeastRepeat l.entries l.at (length l.entries) l.least
