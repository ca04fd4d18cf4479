-- An empty list skips no field: field by field the two lists of identifiers compute to one.
use Rattle.heap_graph.proofs.FollowedFields.{empty_skips_nothing}
use Rattle.heap_graph.proofs.laws.an_empty_list_skips_nothing.Goals as goal

pub returns : goal.returns
returns c = empty_skips_nothing
