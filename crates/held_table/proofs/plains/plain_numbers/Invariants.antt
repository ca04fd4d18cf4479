-- The first sets have their numbers.
use Rattle.std.proofs.Common.{length, ◌≡◌}
use Rattle.held_table.specs.working.Plains.{ArePlains}
use Rattle.held_table.proofs.plains.plain_numbers.Given as goal

abbrev pub invariant-loop-set : goal.invariant-loop-set
invariant-loop-set g l = record {
  each : length l.plains.items ≡ l.set;
  plain : ArePlains l.store l.set l.plains.items;
}
