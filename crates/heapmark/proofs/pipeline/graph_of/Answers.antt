-- Reading and linking refuse with a first fault or out of memory: both have codes that a run may have.
use Rattle.std.proofs.Common.{rules}
use Rattle.heapmark.proofs.Codes.{known_of}
use Rattle.heapmark.proofs.pipeline.graph_of.Goals as goal

pub returns-in-Err-clause-known : goal.returns-in-Err-clause-known
returns-in-Err-clause-known g c = known_of c.args.bytes.now c.from.result (search rules)
