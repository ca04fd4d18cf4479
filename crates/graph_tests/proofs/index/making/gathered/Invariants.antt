-- The builder has the identifiers so far.
use Rattle.std.proofs.Common.{take, ◌≡◌}
use Rattle.graph_tests.proofs.index.making.gathered.Given as goal

abbrev pub invariant-loop-id : goal.invariant-loop-id
invariant-loop-id g l = record {
  ids : l.builder.ids ≡ take l.id-index l.ids;
  shift : l.builder.shift ≡ l.fn.bits.shift;
  low : l.builder.low ≡ l.fn.bits.low;
}
