-- The sets of the first lines are marked.
use Rattle.std.proofs.Common.{length, take, ◌≡◌}
use Rattle.held_table.specs.working.Marking.{AreMarked, AreOnly}
use Rattle.held_table.proofs.joints.marks_of.Given as goal

abbrev pub invariant-loop-line : goal.invariant-loop-line
invariant-loop-line g l = record {
  each : length l.marks.items ≡ l.count;
  marked : AreMarked (take l.line-index l.lines) l.marks.items;
  only : AreOnly (take l.line-index l.lines) l.marks.items;
}
