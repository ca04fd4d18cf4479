-- A worker that never went idle is busy.
use Rattle.std.proofs.Common.{inr}
use Rattle.pool_tests.proofs.graph.claim_white.Goals as goal

pub claim-requires-clause-busy : goal.claim-requires-clause-busy
claim-requires-clause-busy g c = inr c.requires.awake
