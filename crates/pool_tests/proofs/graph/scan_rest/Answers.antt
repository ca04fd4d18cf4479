-- Object 2 remains, and refers to the class.
use Rattle.std.proofs.Common.{ap, ◌∙◌}
use Rattle.buffer_pool.specs.Book.{finished}
use Rattle.pool_tests.proofs.SmallRuns.{may_claim_again}
use Rattle.pool_tests.proofs.graph.scan_rest.Goals as goal

pub claim_marked-requires-clause-can : goal.claim_marked-requires-clause-can
claim_marked-requires-clause-can g c =
    may_claim_again c.finish.new.worker.book (c.finish.ensures.event ∙ ap (finished 0) c.requires.book)
