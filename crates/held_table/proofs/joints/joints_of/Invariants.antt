-- The marked sets from the counter on are gathered.
use Rattle.std.proofs.Common.{length, ◌≡◌}
use Rattle.held_table.specs.working.Marking.{AreGathered, AreMarked}
use Rattle.held_table.proofs.joints.joints_of.Given as goal

abbrev pub invariant-loop-set : goal.invariant-loop-set
invariant-loop-set g l = record {
  each : length l.marks.items ≡ length l.plains;
  lines : AreMarked l.lines l.marks.items;
  gathered : AreGathered l.store l.lines l.marks.items l.set l.joints.items;
}
