-- The places are those of the dump, so the names and the classes are those of its records.
use Rattle.heap_graph.proofs.Words.{AreNames, IfOk-weaker, IsDumpOf, IsPlaced, List, Places, Sight, SkipEntry}
use Rattle.heap_graph.proofs.Words.{StandInTurn, Stands, SubRecordStandsAt, ap, arith, heap_of, is_met, map, objects, ℕ}
use Rattle.heap_graph.proofs.Words.{◌∙◌, ◌≡◌}
use Rattle.heap_graph.proofs.Building.{are_names, seen_by}
use Rattle.heap_graph.proofs.Sizes.{id_size_range}
use Rattle.heap_graph.proofs.skip.Skip.met.Goals as goal

pub new-requires-clause-low : goal.new-requires-clause-low
new-requires-clause-low g c =
    omega (arith, c.id_size.ensures, (id_size_range c.args.dump.now.id_size c.requires.spells.id_size).0)

pub new-requires-clause-high : goal.new-requires-clause-high
new-requires-clause-high g c =
    omega (arith, c.id_size.ensures, (id_size_range c.args.dump.now.id_size c.requires.spells.id_size).1)

are_seen : (bytes : List ℕ) (dump : Places) (is : IsDumpOf bytes dump) (v : Sight) (strings loaded places : List ℕ)
    → v.bytes ≡ bytes → v.id_size ≡ dump.id_size → strings ≡ dump.strings → loaded ≡ dump.loaded
    → places ≡ dump.objects → IsPlaced bytes dump is.records
    → AreNames v strings loaded is.records × StandInTurn (Stands v) places (objects (heap_of is.records))
are_seen bytes dump is v strings loaded places bytes_are size_is strings_are loaded_are places_are placed = (
  are_names bytes dump is v strings loaded bytes_are size_is strings_are loaded_are placed,
  seen_by SubRecordStandsAt v bytes dump.id_size places dump.objects (objects (heap_of is.records)) bytes_are size_is
      places_are placed.objects,
)

pub met_among-requires : goal.met_among-requires
met_among-requires g c =
    let seen =
    are_seen c.args.bytes.now c.args.dump.now c.requires c.new.result c.strings.result.now c.loaded.result.now
    c.objects.result.now c.new.ensures.bytes (c.new.ensures.size ∙ c.id_size.ensures) c.strings.ensures
    c.loaded.ensures c.objects.ensures (c.dump_is_placed.ensures c.args.bytes.now c.args.dump.now c.requires) in
    (c.requires.records, seen.0, seen.1)

pub returns : goal.returns
returns g c = IfOk-weaker c.met_among.result _ _
    (λ met told is.
    let seen =
    are_seen c.args.bytes.now c.args.dump.now is c.new.result c.strings.result.now c.loaded.result.now
    c.objects.result.now c.new.ensures.bytes (c.new.ensures.size ∙ c.id_size.ensures) c.strings.ensures
    c.loaded.ensures c.objects.ensures (c.dump_is_placed.ensures c.args.bytes.now c.args.dump.now is) in
    told is.records seen.0 seen.1 ∙ ap (λ (es : List SkipEntry). map (is_met is.records) es) c.entries.ensures)
    c.met_among.ensures
