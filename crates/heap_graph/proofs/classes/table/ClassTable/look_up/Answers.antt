-- The guessed class has the identifier, and no other class has it.
use Rattle.std.proofs.Common.{nat_eq, subst}
use Rattle.std.specs.List.{IsDistinct}
use Rattle.heap_graph.specs.working.ClassList.{ClassList, ids_of}
use Rattle.heap_graph.proofs.GuessLaws.{own_place}
use Rattle.heap_graph.proofs.classes.table.ClassTable.look_up.Goals as goal

pub returns-then-bears : goal.returns-then-bears
returns-then-bears g c =
    let unique = subst (λ (t : ClassList). IsDistinct nat_eq (ids_of t.entries)) c.self.view_is c.self.invariant in
    own_place c.args.self.now.entries _ c.args.id unique (c.bears.ensures.below c.if-bears.true)
    (c.bears.ensures.id c.if-bears.true)
