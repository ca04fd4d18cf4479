-- The dump has a place for each of its objects, so either none breaks a rule or the first that does has its place.
use Rattle.heap_graph.proofs.Words.{places_of, refl}
use Rattle.heap_graph.proofs.LinkedOrFault.{linked_or_fault}
use Rattle.heap_graph.proofs.laws.always_linked_or_fault.Goals as goal

pub returns : goal.returns
returns c = λ text s records spells orderly.
    linked_or_fault text s records spells orderly
    (c.dump_is_placed.ensures text (places_of s records)
    (record { records = records; spells = spells; orderly = orderly; places = refl }))
