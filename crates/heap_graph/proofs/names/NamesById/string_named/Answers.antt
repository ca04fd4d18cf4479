-- The index finds the first string with the identifier, and the text of that string counts.
use Rattle.heap_graph.proofs.Words.{List, Some, ap, string_id, ℕ, ◌∙◌}
use Rattle.heap_graph.proofs.Lookups.{found, found_below, missing}
use Rattle.heap_graph.proofs.NameLookups.{first_text, string_text, text_at}
use Rattle.heap_graph.proofs.names.NamesById.string_named.Goals as goal

pub bounds-self-number : goal.bounds-self-number
bounds-self-number g c =
    let are = c.requires.1 in
    found_below string_id _ _ _ _ _ are.names.string_each are.strings_are c.in-Some.ensures

pub string_text-requires : goal.string_text-requires
string_text-requires g c =
    let are = c.requires.1 in
    let below = found_below string_id _ _ _ _ _ are.names.string_each are.strings_are c.in-Some.ensures in
    let it = text_at _ _ _ _ c.in-Some.number are.names below in (it.time, it.id, it.text, it.stands)

pub returns-in-Some : goal.returns-in-Some
returns-in-Some g c = λ records are.
    let below = found_below string_id _ _ _ _ _ are.names.string_each are.strings_are c.in-Some.ensures in
    let it = text_at _ _ _ _ c.in-Some.number are.names below in
    ap (λ (text : List ℕ). Some text) (c.string_text.ensures it.time it.id it.text it.stands)
    ∙ found string_id string_text _ _ _ _ _ it.here are.strings_are c.in-Some.ensures ∙ first_text records c.args.id

pub returns-in-None : goal.returns-in-None
returns-in-None g c = λ records are.
    missing string_id string_text _ _ _ are.strings_are c.in-None.ensures ∙ first_text records c.args.id
