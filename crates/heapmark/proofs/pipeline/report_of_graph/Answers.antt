-- A marking refuses if it is out of memory, or for a reason of its own.
use Rattle.heapmark.proofs.OfMarking.{known_marking}
use Rattle.heapmark.proofs.pipeline.report_of_graph.Goals as goal

pub returns-in-Err-clause-known : goal.returns-in-Err-clause-known
returns-in-Err-clause-known g c =
    known_marking c.refusal_of_marking.result c.in-Err.fault c.refusal_of_marking.ensures.value

-- the token is of a pool with the first tag of the options
pub returns-in-Err-clause-cause : goal.returns-in-Err-clause-cause
returns-in-Err-clause-cause g c = c.refusal_of_marking.ensures.cause _ c.in-Err.ensures.of_options
