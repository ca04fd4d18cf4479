-- The names by identifier are those of the records, so what is planned and read by them is of these records.
use Rattle.heap_graph.proofs.Words.{AreLinkedOf, AreNamedOf, AreNamesByIdOf, AreNamesOf, HaveFatesOf, IfOk-weaker}
use Rattle.heap_graph.proofs.Words.{List, Record, heap_of}
use Rattle.heap_graph.proofs.graph.classes_and_roots.name_classes.Goals as goal

pub look_up_names-requires-clause-names : goal.look_up_names-requires-clause-names
look_up_names-requires-clause-names g c =
    (c.requires.names.0, c.in_ok-by_id.ensures c.requires.names.0 c.requires.names.1)

pub look_up_names-requires-clause-fates : goal.look_up_names-requires-clause-fates
look_up_names-requires-clause-fates g c = c.requires.fates

pub returns : goal.returns
returns g c =
    let o = c.args.objects.now in IfOk-weaker c.look_up_names.result
    (λ n. (records : List Record) → AreLinkedOf o (heap_of records) → HaveFatesOf o (heap_of records)
    → AreNamesByIdOf c.in_ok-by_id.by_id records → AreNamedOf records c.args.skip.now o n.plan n.classes.items)
    (λ n. (records : List Record) → AreLinkedOf o (heap_of records) → HaveFatesOf o (heap_of records)
    → AreNamesOf c.args.names.now records → AreNamedOf records c.args.skip.now o n.plan n.classes.items)
    (λ n named records linked fates names. named records linked fates (c.in_ok-by_id.ensures records names))
    c.look_up_names.ensures
