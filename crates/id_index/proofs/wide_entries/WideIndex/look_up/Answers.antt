-- If an object has the identifier, the entry that halving finds is that of the first such object.
use Rattle.id_index.proofs.Words.{List, Some, ap, arith, get_or_read, length, position, ℕ, ◌<◌, ◌==◌, ◌∙◌, ◌≡◌}
use Rattle.id_index.specs.working.WideEntries.{IsFirstFrom, entry_in, id_of, ids_of_entries}
use Rattle.id_index.specs.declared.wide_entries.WideEntry.{WideEntry}
use Rattle.id_index.proofs.Wide.{found, missing, no_entry}
use Rattle.id_index.proofs.wide_entries.WideIndex.look_up.Goals.{else-at-len-via-else-at-len}
use Rattle.id_index.proofs.wide_entries.WideIndex.look_up.Goals.{else-at-len-via-then-at-len+else-id}
use Rattle.id_index.proofs.wide_entries.WideIndex.look_up.Goals as goal

pub returns-then-id : goal.returns-then-id
returns-then-id g c =
    let i = c.self.inside in
    let at : ℕ = c.first_from-at.result.0 in
    let first : IsFirstFrom i.entries.items c.args.id at = rw c.deref.ensures.value at c.first_from-at.ensures in
    let inside : at < length i.entries.items = omega (arith, c.if-at-len.true, c.len.ensures) in
    let read : c.index.result.now ≡ entry_in i.entries.items at =
    get_or_read i.entries.items at c.index.result.now inside c.index.ensures no_entry in
    let again : c.index-then-id.result.now ≡ entry_in i.entries.items at =
    get_or_read i.entries.items at c.index-then-id.result.now inside c.index-then-id.ensures no_entry in
    let is : id_of (entry_in i.entries.items at) ≡ c.args.id =
    omega (arith, c.if-id.true, c.id.ensures, ap id_of read) in
    ap (λ (e : WideEntry). Some e.number) again
    ∙ found i.entries.items
    (ids_of_entries i.entries.items) c.self.invariant.ordered c.self.invariant.are c.args.id at
    first inside is
    ∙ ap (λ (ids : List ℕ). position (λ x. x == c.args.id) ids) c.self.view_is

pub returns : goal.returns
returns g c =
    let i = c.self.inside in
    let at : ℕ = c.first_from-at.result.0 in
    let first : IsFirstFrom i.entries.items c.args.id at = rw c.deref.ensures.value at c.first_from-at.ensures in
    missing i.entries.items (ids_of_entries i.entries.items) c.self.invariant.ordered c.self.invariant.are c.args.id at
    first
    (λ inside is. elim c.else-at-len.branch [
      | else-at-len-via-then-at-len+else-id w ↦
          let read : w.index.result.now ≡ entry_in i.entries.items at =
          get_or_read i.entries.items at w.index.result.now inside w.index.ensures no_entry in
          w.if-id.false (omega (arith, is, w.id.ensures, ap id_of read))
      | else-at-len-via-else-at-len w ↦ omega (arith, w.if-at-len.false, inside, c.len.ensures)
    ])
    ∙ ap (λ (ids : List ℕ). position (λ x. x == c.args.id) ids) c.self.view_is
