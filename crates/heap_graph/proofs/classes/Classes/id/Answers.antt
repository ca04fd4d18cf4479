-- The identifier is that of the entry with this number.
use Rattle.std.proofs.Common.{ap, sym, ◌∙◌}
use Rattle.heap_graph.specs.working.ClassList.{TableEntry}
use Rattle.heap_graph.proofs.ClassTableLaws.{id_at, there_is}
use Rattle.heap_graph.proofs.classes.Classes.id.Goals as goal

pub returns : goal.returns
returns g c =
    let entries = c.args.self.now.table.entries in
    let it = there_is entries c.args.number c.requires in
    ap (λ (e : TableEntry). e.0) (c.get.ensures it.0 it.1) ∙ sym (id_at entries c.args.number it.0 it.1)
