-- The first mark has the index, or no mark has it.
use Rattle.labelled_graph.proofs.Found.{not_first}
use Rattle.labelled_graph.proofs.place_marks.split_at.Goals as goal

pub returns-clause-found : goal.returns-clause-found
returns-clause-found c =
    not_first c.args.marks.now _ _ c.args.index c.in-Some.ensures.cases.0 c.requires c.if-first-index.false
