-- A binary search by key ends at the entry, or at the index that it would have.
use Rattle.std.proofs.Common.{rules}
use Rattle.std.proofs.lemmas.List.Sorted.{answers_always}
use Rattle.id_index.proofs.Narrow.{found, not_found}
use Rattle.id_index.proofs.narrow_entries.search_narrow.Goals as goal

pub returns-in-Ok : goal.returns-in-Ok
returns-in-Ok c =
    let it = c.in-Ok.ensures.position (λ entry. entry.at) (answers_always _ _ _ (λ f a r g called. search rules)) in
    found c.args.entries.now c.args.lowest c.args.id c.requires.ascend c.requires.low c.in-Ok.at c.in-Ok.ensures.bound it

pub returns-in-Err : goal.returns-in-Err
returns-in-Err c =
    let it = c.in-Err.ensures.position (λ entry. entry.at) (answers_always _ _ _ (λ f a r g called. search rules)) in
    not_found c.args.entries.now c.args.lowest c.args.id c.requires.ascend c.requires.low c.in-Err.field-0 it
