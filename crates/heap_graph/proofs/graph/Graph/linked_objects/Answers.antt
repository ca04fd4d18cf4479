-- The places are those of the dump, so what the tests say of the objects there is said of the dump's heap.
use Rattle.heap_graph.proofs.Words.{heap_of}
use Rattle.heap_graph.proofs.Building.{are_linked, has_fault}
use Rattle.heap_graph.proofs.graph.Graph.linked_objects.Goals as goal

pub check-requires : goal.check-requires
check-requires g c =
    let bounds = c.type_bounds in
    let are = c.in-Ok.ensures.objects.are c.requires in
    let fates = c.in-Ok.ensures.fates c.requires in (
      bounds.send-A,
      (
        bounds.sync-A,
        (
          bounds.sync-T,
          (
            bounds.frees-A-Allocator,
            (heap_of c.requires.records, are, fates),
          ),
        ),
      ),
    )

pub returns-in-Ok-check-clause-objects : goal.returns-in-Ok-check-clause-objects
returns-in-Ok-check-clause-objects g c = λ is.
    let read = c.in-Ok.ensures.objects in
    let fates = c.in-Ok.ensures.fates is in
    record {
      bytes_are = read.bytes_are;
      size_is = read.size_is;
      linked = are_linked c.args.bytes.now c.args.dump.now is c.in-Ok.objects.view c.in-Ok.objects.places.items
          c.in-Ok.objects.index read.bytes_are read.size_is (read.are is)
          (c.in-Ok-check.ensures.linked (heap_of is.records) (read.are is) fates);
      fates = fates;
    }

pub returns-in-Err-check-clause-fault : goal.returns-in-Err-check-clause-fault
returns-in-Err-check-clause-fault g c =
    has_fault c.args.bytes.now c.args.dump.now c.requires c.in-Ok.objects.view.id_size c.in-Ok.objects.places.items
    c.in-Err-check.fault c.in-Ok.ensures.objects.size_is c.in-Ok.ensures.objects.places_are
    (c.in-Err-check.ensures.fault (heap_of c.requires.records) (c.in-Ok.ensures.objects.are c.requires)
    (c.in-Ok.ensures.fates c.requires))
