-- The entries before this index ascend and are set.
use Rattle.id_index.specs.working.NarrowEntries.{AreSet, DoAscend}
use Rattle.id_index.proofs.narrow_entries.do_ascend.Given as goal

abbrev pub invariant-loop-at : goal.invariant-loop-at
invariant-loop-at l = DoAscend l.entries l.at × AreSet l.entries l.at
