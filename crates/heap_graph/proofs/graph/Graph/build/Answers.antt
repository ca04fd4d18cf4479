-- What is read of the objects is of the dump, and so are its names and its roots.
use Rattle.heap_graph.proofs.Words.{IsGraphOfText, IsPlaced, List, Places, SkipEntry, SubRecordStandsAt, [], ap, arith}
use Rattle.heap_graph.proofs.Words.{filter, heap_of, is_root, subst, ℕ, ◌∙◌, ◌≡◌}
use Rattle.heap_graph.proofs.Building.{are_names, seen_by}
use Rattle.heap_graph.proofs.Sizes.{id_size_range}
use Rattle.heap_graph.proofs.graph.Graph.build.Goals as goal

pub new-requires-clause-low : goal.new-requires-clause-low
new-requires-clause-low g c =
    omega (
      arith,
      c.id_size.ensures,
      ap (λ (d : Places). d.id_size) c.in_ok-objects.ensures.rest,
      (id_size_range c.args.dump.id_size c.requires.spells.id_size).0,
    )

pub new-requires-clause-high : goal.new-requires-clause-high
new-requires-clause-high g c =
    omega (
      arith,
      c.id_size.ensures,
      ap (λ (d : Places). d.id_size) c.in_ok-objects.ensures.rest,
      (id_size_range c.args.dump.id_size c.requires.spells.id_size).1,
    )

pub assemble-requires : goal.assemble-requires
assemble-requires g c =
    let placed : IsPlaced c.args.bytes.now c.args.dump c.requires.records =
    c.dump_is_placed.ensures c.args.bytes.now c.args.dump c.requires in
    let rest : c.linked_objects.new.dump ≡ record c.args.dump { objects = [] } = c.in_ok-objects.ensures.rest in
    let read = c.in_ok-objects.ensures.objects c.requires in (
      c.args.bytes.now,
      c.args.dump,
      c.requires,
      read,
      record {
        linked = read.linked;
        fates = read.fates;
        names_are = are_names c.args.bytes.now c.args.dump c.requires c.new.result c.strings.result.now
            c.loaded.result.now
            c.new.ensures.bytes (c.new.ensures.size ∙ c.id_size.ensures ∙ ap (λ (d : Places). d.id_size) rest)
            (c.strings.ensures ∙ ap (λ (d : Places). d.strings) rest)
            (c.loaded.ensures ∙ ap (λ (d : Places). d.loaded) rest) placed;
        roots_stand = seen_by SubRecordStandsAt c.in_ok-objects.objects.view c.args.bytes.now c.args.dump.id_size
            c.roots.result.now c.args.dump.roots
            (filter is_root (heap_of c.requires.records)) read.bytes_are
            read.size_is (c.roots.ensures ∙ ap (λ (d : Places). d.roots) rest) placed.roots;
      },
    )

pub returns-in-Ok-clause-graph : goal.returns-in-Ok-clause-graph
returns-in-Ok-clause-graph g c =
    subst (λ (list : List SkipEntry). IsGraphOfText c.args.bytes.now list c.in-Ok.graph) c.entries.ensures
    (subst (λ (text : List ℕ). IsGraphOfText text c.entries.result.now c.in-Ok.graph)
    (c.in_ok-objects.ensures.objects c.requires).bytes_are c.in-Ok.ensures)
