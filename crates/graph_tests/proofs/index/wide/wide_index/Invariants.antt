-- The builder has the identifiers so far.
use Rattle.std.proofs.Common.{take, ◌≡◌}
use Rattle.graph_tests.proofs.index.wide.wide_index.Given as goal

abbrev pub invariant-loop-id : goal.invariant-loop-id
invariant-loop-id g l = l.builder ≡ take l.id-index l.ids
