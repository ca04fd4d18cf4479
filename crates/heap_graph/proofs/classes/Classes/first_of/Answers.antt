-- A class whose fields have no bytes declares none, so the first with fields is the one above. Else it is this class.
use Rattle.heap_graph.proofs.Words.{ClassPlace, ap, ids_of, sym, ◌∙◌}
use Rattle.heap_graph.proofs.ClassTableLaws.{no_fields, read_entry, some_fields}
use Rattle.heap_graph.proofs.LayoutLaws.{first_above, first_here}
use Rattle.heap_graph.proofs.classes.Classes.first_of.Goals as goal

pub returns-then-class_place-eq0 : goal.returns-then-class_place-eq0
returns-then-class_place-eq0 g c = λ heap dump rest are at first.
    let is = read_entry c.args.self.now.table.entries c.args.number c.class_place.result c.requires.below
    c.class_place.ensures in
    first_above heap (ids_of c.args.self.now.table.entries) dump rest c.args.above (no_fields c.args.self.now.view heap
    c.args.self.now.table.entries c.args.number dump are c.requires.below at.named (ap (λ (p : ClassPlace). p.size)
    (sym is) ∙ c.if-class_place-eq0.true)) first

pub returns : goal.returns
returns g c = λ heap dump rest are at first.
    let is = read_entry c.args.self.now.table.entries c.args.number c.class_place.result c.requires.below
    c.class_place.ensures in
    first_here heap (ids_of c.args.self.now.table.entries) c.args.number dump rest (some_fields c.args.self.now.view
    heap c.args.self.now.table.entries c.args.number dump are c.requires.below at.named
    (λ e. c.if-class_place-eq0.false (ap (λ (p : ClassPlace). p.size) is ∙ e))) at
