-- `least` is the least repeat among the extents before this index, and `seen` has the granules of the last extent's
-- page.
use Rattle.id_index.specs.working.ExtentRepeats.{AreSeen, IsLeastRepeat}
use Rattle.id_index.proofs.repeats.least_repeat.Given as goal

abbrev pub invariant-loop-at : goal.invariant-loop-at
invariant-loop-at l = record {
  least : IsLeastRepeat l.extents l.at l.count l.least;
  seen : AreSeen l.extents l.at l.page l.seen;
}
