-- Row, bytes and identifiers are those of the object with this number. Nothing is missed before the first step.
use Rattle.heap_graph.proofs.Words.{IsRowIn, List, RowKey, ap, arith, id_list_of, references_in, subst, sym}
use Rattle.heap_graph.proofs.Words.{unresolved_left, ◌∙◌}
use Rattle.heap_graph.specs.Walks.{Step, Visited}
use Rattle.heap_graph.proofs.GraphReading.{bytes_read, references_read, row_read, seen, steps_read, visit_read}
use Rattle.heap_graph.proofs.Visiting.{unresolved-steps}
use Rattle.heap_graph.proofs.graph.Graph.visit.Goals as goal

pub new-requires-clause-few : goal.new-requires-clause-few
new-requires-clause-few g c = (visit_read c.self.invariant c.visit_of-row.ensures).ids_are.few

pub new-requires-clause-class : goal.new-requires-clause-class
new-requires-clause-class g c = (visit_read c.self.invariant c.visit_of-row.ensures).named

pub returns-clause-row : goal.returns-clause-row
returns-clause-row g c =
    ap (λ (v : Visited). v.row) c.new.ensures
    ∙ row_read (seen c.self.view_is c.self.invariant) c.visit_of-row.ensures

pub returns-clause-row_within : goal.returns-clause-row_within
returns-clause-row_within g c =
    let within = (seen c.self.view_is c.self.invariant).whole.rows_within c.args.object c.requires in
    subst (λ (row : RowKey). IsRowIn c.args.self.now row) (sym (returns-clause-row g c)) within

pub returns-clause-bytes : goal.returns-clause-bytes
returns-clause-bytes g c =
    ap (λ (v : Visited). v.bytes) c.new.ensures
    ∙ bytes_read (seen c.self.view_is c.self.invariant) c.visit_of-row.ensures

pub returns-clause-few_bytes : goal.returns-clause-few_bytes
returns-clause-few_bytes g c =
    let few = (seen c.self.view_is c.self.invariant).whole.few_bytes c.args.object in
    omega (arith, returns-clause-bytes g c, few)

pub returns-clause-steps : goal.returns-clause-steps
returns-clause-steps g c =
    ap (λ (v : Visited). v.left) c.new.ensures
    ∙ steps_read (seen c.self.view_is c.self.invariant) c.visit_of-row.ensures

pub returns-clause-value : goal.returns-clause-value
returns-clause-value g c =
    ap (λ (v : Visited). references_in v.left) c.new.ensures
    ∙ references_read (seen c.self.view_is c.self.invariant) c.visit_of-row.ensures

pub returns-clause-within : goal.returns-clause-within
returns-clause-within g c = (seen c.self.view_is c.self.invariant).whole.references_within c.args.object

pub returns-clause-unresolved : goal.returns-clause-unresolved
returns-clause-unresolved g c =
    let none = ap (λ (v : Visited). v.unresolved) c.new.ensures in
    let left =
    ap (λ (steps : List Step). unresolved_left steps) (returns-clause-steps g c) ∙ unresolved-steps c.args.self.now.ids
    (id_list_of c.args.self.now c.args.object) in
    omega (arith, none, left)
