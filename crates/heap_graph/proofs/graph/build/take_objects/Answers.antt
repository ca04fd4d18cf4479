-- The places that were taken out are the dump's own, so what is read at them is of the dump.
use Rattle.heap_graph.proofs.Words.{ArePlacesOf, HaveFatesOf, IfOk-weaker, IsDumpOf, IsReadFrom, Places, heap_of}
use Rattle.heap_graph.proofs.Building.{handed_places}
use Rattle.heap_graph.proofs.graph.build.take_objects.Goals as goal

pub read_objects-requires : goal.read_objects-requires
read_objects-requires g c =
    let bounds = c.type_bounds in (
      bounds.send-A,
      (
        bounds.sync-T,
        (
          bounds.sync-A,
          (
            bounds.frees-A-Allocator,
            (
              c.args.dump.now,
              handed_places _ _ _ _ _ c.requires c.take_objects-places.ensures.rest c.id_size.ensures
                  c.take_objects-places.ensures.places,
            ),
          ),
        ),
      ),
    )

pub returns-clause-objects : goal.returns-clause-objects
returns-clause-objects g c = IfOk-weaker c.read_objects.result
    (λ o. (dump : Places) → ArePlacesOf c.args.bytes.now c.id_size.result c.take_objects-places.result.items dump
    → IsReadFrom o c.args.bytes.now dump)
    (λ o. IsReadFrom o c.args.bytes.now c.args.dump.now)
    (λ o read. read c.args.dump.now
    (handed_places _ _ _ _ _ c.requires c.take_objects-places.ensures.rest c.id_size.ensures c.take_objects-places.ensures.places))
    c.read_objects.ensures.objects

pub returns-clause-fates : goal.returns-clause-fates
returns-clause-fates g c = IfOk-weaker c.read_objects.result
    (λ o. (dump : Places) (are : ArePlacesOf c.args.bytes.now c.id_size.result c.take_objects-places.result.items dump)
    → HaveFatesOf o (heap_of are.is.records))
    (λ o. (is : IsDumpOf c.args.bytes.now c.args.dump.now) → HaveFatesOf o (heap_of is.records))
    (λ o told is. told c.args.dump.now
    (handed_places _ _ _ _ _ is c.take_objects-places.ensures.rest c.id_size.ensures c.take_objects-places.ensures.places))
    c.read_objects.ensures.fates
