-- The index finds the first loaded class with the identifier, and the name of that class counts.
use Rattle.heap_graph.proofs.Words.{Some, ap, loaded_id, ℕ, ◌∙◌}
use Rattle.heap_graph.proofs.Lookups.{found, found_below, missing}
use Rattle.heap_graph.proofs.NameLookups.{first_name, loaded_at, loaded_name}
use Rattle.heap_graph.proofs.names.NamesById.name_of.Goals as goal

pub bounds-self-number : goal.bounds-self-number
bounds-self-number g c =
    let are = c.requires.1 in
    found_below loaded_id _ _ _ _ _ are.names.loaded_each are.loaded_are c.in-Some.ensures

pub loaded_class_name-requires : goal.loaded_class_name-requires
loaded_class_name-requires g c =
    let are = c.requires.1 in
    let below = found_below loaded_id _ _ _ _ _ are.names.loaded_each are.loaded_are c.in-Some.ensures in
    let it = loaded_at _ _ _ _ c.in-Some.number are.names below in
    (it.time, it.serial, it.class, it.stack, it.name, it.stands)

pub returns-in-Some : goal.returns-in-Some
returns-in-Some g c = λ records are.
    let below = found_below loaded_id _ _ _ _ _ are.names.loaded_each are.loaded_are c.in-Some.ensures in
    let it = loaded_at _ _ _ _ c.in-Some.number are.names below in
    ap (λ (n : ℕ). Some n) (c.loaded_class_name.ensures it.time it.serial it.class it.stack it.name it.stands)
    ∙ found loaded_id loaded_name _ _ _ _ _ it.here are.loaded_are c.in-Some.ensures ∙ first_name records c.args.class

pub returns-in-None : goal.returns-in-None
returns-in-None g c = λ records are.
    missing loaded_id loaded_name _ _ _ are.loaded_are c.in-None.ensures ∙ first_name records c.args.class
