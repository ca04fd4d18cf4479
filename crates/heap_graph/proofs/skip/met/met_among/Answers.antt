-- The names are those of the records whose classes are described, so an entry is met by one where a class declares it.
use Rattle.heap_graph.proofs.Words.{AreNamesByIdOf, AreNamesOf, IfOk-weaker, List, Record, StandInTurn, Stands}
use Rattle.heap_graph.proofs.Words.{class_dumps, described, heap_of, is_met, map, objects, ◌∙◌, ◌≡◌}
use Rattle.heap_graph.proofs.skip.met.met_among.Goals as goal

pub new-requires : goal.new-requires
new-requires g c = (c.requires.0, c.requires.1)

pub described_classes-requires-clause-names : goal.described_classes-requires-clause-names
described_classes-requires-clause-names g c = (c.requires.0, c.in_ok-by_id.ensures c.requires.0 c.requires.1)

pub described_classes-requires-clause-stand : goal.described_classes-requires-clause-stand
described_classes-requires-clause-stand g c = (heap_of c.requires.0, c.requires.2)

pub met_by-requires : goal.met_by-requires
met_by-requires g c = (c.requires.0, c.in_ok-by_id.ensures c.requires.0 c.requires.1)

pub returns : goal.returns
returns g c =
    let entries = c.args.entries.now in IfOk-weaker c.met_by.result
    (λ met. (records : List Record) → AreNamesByIdOf c.in_ok-by_id.by_id records
    → c.deref.result.now ≡ map (described records) (class_dumps (heap_of records))
    → met.items ≡ map (is_met records) entries)
    (λ met. (records : List Record) → AreNamesOf c.args.names.now records
    → StandInTurn (Stands c.args.names.now.view) c.args.places.now (objects (heap_of records))
    → met.items ≡ map (is_met records) entries)
    (λ met told records names stand.
    let by_id = c.in_ok-by_id.ensures records names in
    told records by_id (c.deref.ensures.value ∙ c.in_ok-classes.ensures records by_id stand))
    c.met_by.ensures
