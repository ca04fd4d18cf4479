-- The builder has the identifiers so far.
use Rattle.std.proofs.Common.{take, ◌≡◌}
use Rattle.graph_tests.proofs.index.narrow.narrow_between.Given as goal

abbrev pub invariant-loop-id : goal.invariant-loop-id
invariant-loop-id g l = record {
  ids : l.builder.ids ≡ take l.id-index l.ids;
  shift : l.builder.shift ≡ 3;
  low : l.builder.low ≡ l.fn.low;
}
