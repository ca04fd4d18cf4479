-- The first objects are counted.
use Rattle.std.proofs.Common.{All, length}
use Rattle.std.specs.List.{range_with_len}
use Rattle.held_table.specs.Tally.{IsTally}
use Rattle.held_table.specs.working.Counting.{IsCounted}
use Rattle.held_table.specs.working.Plains.{IsShown, shown_by}
use Rattle.held_table.proofs.lines.lines_of.Given as goal

abbrev pub invariant-loop-object : goal.invariant-loop-object
invariant-loop-object g l = record {
  counted : IsCounted l.tally;
  tally : IsTally l.graph (shown_by l.flow l.plains) (range_with_len 0 l.object) l.tally.lines.items;
  shown : All (λ m. IsShown l.graph l.flow.store (length l.plains) m.set m.row) l.tally.lines.items;
}
