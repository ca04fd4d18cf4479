-- A text spells one list of records, so the roots of any graph of it are those at the places of the dump.
use Rattle.heap_graph.proofs.Words.{IfOk-weaker, IsPlaced, List, StandInTurn, Stands, SubRecordStandsAt, ap, arith}
use Rattle.heap_graph.proofs.Words.{filter, heap_of, is_root, sym, ◌∙◌}
use Rattle.hprof_grammar.specs.Record.{Record}
use Rattle.heap_graph.specs.Roots.{root_ids}
use Rattle.heap_graph.proofs.Building.{seen_by}
use Rattle.heap_graph.proofs.Sizes.{id_size_range}
use Rattle.heap_graph.proofs.graph.names_of_roots.root_names.Goals as goal

pub new-view-requires-clause-low : goal.new-view-requires-clause-low
new-view-requires-clause-low g c =
    omega (arith, c.id_size.ensures, (id_size_range c.args.dump.now.id_size c.requires.spells.id_size).0)

pub new-view-requires-clause-high : goal.new-view-requires-clause-high
new-view-requires-clause-high g c =
    omega (arith, c.id_size.ensures, (id_size_range c.args.dump.now.id_size c.requires.spells.id_size).1)

pub read_ids-requires : goal.read_ids-requires
read_ids-requires g c =
    let placed : IsPlaced c.args.bytes.now c.args.dump.now c.requires.records =
    c.dump_is_placed.ensures c.args.bytes.now c.args.dump.now c.requires in (
      filter is_root (heap_of c.requires.records),
      seen_by SubRecordStandsAt c.new-view.result c.args.bytes.now c.args.dump.now.id_size c.roots.result.now
          c.args.dump.now.roots (filter is_root (heap_of c.requires.records)) c.new-view.ensures.bytes
          (c.new-view.ensures.size ∙ c.id_size.ensures) c.roots.ensures placed.roots,
    )

pub returns : goal.returns
returns g c =
    let placed : IsPlaced c.args.bytes.now c.args.dump.now c.requires.records =
    c.dump_is_placed.ensures c.args.bytes.now c.args.dump.now c.requires in
    let roots = filter is_root (heap_of c.requires.records) in
    let stand : StandInTurn (Stands c.new-view.result) c.roots.result.now roots =
    seen_by SubRecordStandsAt c.new-view.result c.args.bytes.now c.args.dump.now.id_size c.roots.result.now
    c.args.dump.now.roots roots c.new-view.ensures.bytes (c.new-view.ensures.size ∙ c.id_size.ensures)
    c.roots.ensures placed.roots in
    IfOk-weaker c.read_ids.result _ _
    (λ names read skip graph is.
    let one = c.one_list_of_records.ensures c.args.bytes.now c.args.dump.now.id_size is.id_size
    c.requires.records is.records c.requires.spells is.accepted.spells in
    read roots stand ∙ ap (λ (records : List Record). root_ids (heap_of records)) one.1
    ∙ sym is.graph.root_names_are)
    c.read_ids.ensures
