-- The objects at the places are of one heap, so index, table and fates, made one from another, are of this heap.
use Rattle.heap_graph.proofs.Words.{ArePlacesOf, HaveFates, Sight, arith, heap_of, subst, sym, ◌∙◌, ◌≡◌}
use Rattle.heap_graph.proofs.Building.{are_indexed, objects_stand, same_sight, size_in_range}
use Rattle.heap_graph.proofs.Counting.{few_placed}
use Rattle.heap_graph.proofs.graph.build.read_objects.Goals as goal

pub new-view-requires-clause-low : goal.new-view-requires-clause-low
new-view-requires-clause-low g c = (size_in_range _ _ _ _ c.requires.1).0

pub new-view-requires-clause-high : goal.new-view-requires-clause-high
new-view-requires-clause-high g c = (size_in_range _ _ _ _ c.requires.1).1

pub index_of-requires : goal.index_of-requires
index_of-requires g c =
    let are : ArePlacesOf c.args.bytes.now c.args.id_size c.deref.result.now c.requires.0 =
    record {
      is = c.requires.1.is;
      size_is = c.requires.1.size_is;
      places_are = c.deref.ensures.value ∙ c.requires.1.places_are;
    } in
    let placed = c.dump_is_placed.ensures c.args.bytes.now c.requires.0 are.is in
    let bounds = c.type_bounds in (
      bounds.send-A,
      (
        bounds.sync-T,
        (
          bounds.sync-A,
          (
            bounds.frees-A-Allocator,
            record {
              few = few_placed _ _ c.requires.1.is c.deref.result.now placed
                  (c.deref.ensures.value ∙ c.requires.1.places_are);
              stand = (
                heap_of are.is.records,
                objects_stand _ _ _ _ are placed c.new-view.result c.new-view.ensures.bytes c.new-view.ensures.size,
              );
            },
          ),
        ),
      ),
    )

pub new-requires-clause-low : goal.new-requires-clause-low
new-requires-clause-low g c = (size_in_range _ _ _ _ c.requires.1).0

pub new-requires-clause-high : goal.new-requires-clause-high
new-requires-clause-high g c = (size_in_range _ _ _ _ c.requires.1).1

pub settled_classes-requires-clause-low : goal.settled_classes-requires-clause-low
settled_classes-requires-clause-low g c =
    omega (arith, c.new.ensures.size, (size_in_range _ _ _ _ c.requires.1).0)

pub settled_classes-requires-clause-few : goal.settled_classes-requires-clause-few
settled_classes-requires-clause-few g c =
    few_placed _ _ c.requires.1.is c.deref-2.result.now
    (c.dump_is_placed.ensures c.args.bytes.now c.requires.0 c.requires.1.is)
    (c.deref-2.ensures.value ∙ c.requires.1.places_are)

pub settled_classes-requires-clause-heap : goal.settled_classes-requires-clause-heap
settled_classes-requires-clause-heap g c =
    let are : ArePlacesOf c.args.bytes.now c.args.id_size c.deref-2.result.now c.requires.0 =
    record {
      is = c.requires.1.is;
      size_is = c.requires.1.size_is;
      places_are = c.deref-2.ensures.value ∙ c.requires.1.places_are;
    } in (
      heap_of are.is.records,
      are_indexed _ _ _ _ are (c.dump_is_placed.ensures c.args.bytes.now c.requires.0 are.is)
          c.new-view.result c.new.result c.in_ok-indexed.indexed c.deref.result.now c.new-view.ensures.bytes
          c.new-view.ensures.size c.new.ensures.bytes c.new.ensures.size
          (c.deref.ensures.value ∙ sym c.deref-2.ensures.value) c.in_ok-indexed.ensures,
    )

pub returns-clause-objects : goal.returns-clause-objects
returns-clause-objects g c = λ dump are. record {
  bytes_are = c.new-view.ensures.bytes;
  size_is = c.new-view.ensures.size ∙ are.size_is;
  places_are = are.places_are;
  are = λ is.
      let of : ArePlacesOf c.args.bytes.now c.args.id_size c.args.places.items dump =
      record { is = is; size_is = are.size_is; places_are = are.places_are } in
      let it = are_indexed _ _ _ _ of (c.dump_is_placed.ensures c.args.bytes.now dump is) c.new-view.result
      c.new-view.result c.in_ok-indexed.indexed c.deref.result.now c.new-view.ensures.bytes c.new-view.ensures.size
      c.new-view.ensures.bytes c.new-view.ensures.size c.deref.ensures.value c.in_ok-indexed.ensures in
      it.are;
}

pub returns-clause-fates : goal.returns-clause-fates
returns-clause-fates g c = λ dump from.
    let are : ArePlacesOf c.args.bytes.now c.args.id_size c.deref-2.result.now dump =
    record { is = from.is; size_is = from.size_is; places_are = c.deref-2.ensures.value ∙ from.places_are } in
    let placed = c.dump_is_placed.ensures c.args.bytes.now dump are.is in
    let same : c.new.result ≡ c.new-view.result =
    same_sight c.new.result c.new-view.result (c.new.ensures.bytes ∙ sym c.new-view.ensures.bytes)
    (c.new.ensures.size ∙ sym c.new-view.ensures.size) in
    subst
    (λ (v : Sight). HaveFates v (heap_of are.is.records) c.in_ok-settled.settled.classes.table.entries
    c.in_ok-settled.settled.fates.items) same
    (c.in_ok-settled.ensures (heap_of are.is.records)
    (are_indexed _ _ _ _ are placed c.new-view.result c.new.result c.in_ok-indexed.indexed c.deref.result.now
    c.new-view.ensures.bytes c.new-view.ensures.size c.new.ensures.bytes c.new.ensures.size
    (c.deref.ensures.value ∙ sym c.deref-2.ensures.value) c.in_ok-indexed.ensures))
