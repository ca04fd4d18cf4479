-- The entries and the identifiers agree. If the guess is another entry, halving decides.
use Rattle.id_index.proofs.Words.{List, None, Some, ap, arith, get_or_read, length, position, sym, ℕ, ◌<◌, ◌==◌, ◌∙◌}
use Rattle.id_index.proofs.Words.{◌≡◌}
use Rattle.id_index.specs.working.NarrowEntries.{IsNarrowAt, ids_of_narrow, narrow_in, narrow_of}
use Rattle.id_index.specs.declared.narrow_entries.NarrowEntry.{NarrowEntry}
use Rattle.id_index.proofs.Narrow.{named_in}
use Rattle.id_index.proofs.narrow_entries.NarrowIndex.look_up.Goals as goal

pub returns-then-id-self : goal.returns-then-id-self
returns-then-id-self g c =
    let i = c.self.inside in
    c.nothing.ensures.number
    ∙ named_in i.entries.items i.lowest c.self.invariant.ascend
    (ids_of_narrow i.entries.items i.lowest (length i.entries.items))
    c.self.invariant.agree c.args.id None (λ n (k, here). omega (arith, here.id_is, c.if-id-self.true))
    ∙ ap (λ (ids : List ℕ). position (λ x. x == c.args.id) ids) c.self.view_is

pub returns-then-index-at : goal.returns-then-index-at
returns-then-index-at g c =
    let i = c.self.inside in
    let near : ℕ = c.guess-near.result in
    let within : near < length i.entries.items = omega (arith, c.if-near-len.true, c.len.ensures) in
    let read : c.index.result.now ≡ narrow_in i.entries.items near =
    get_or_read i.entries.items near c.index.result.now within c.index.ensures (narrow_of 0 0) in
    let again : c.index-then-index-at.result.now ≡ narrow_in i.entries.items near =
    get_or_read i.entries.items near _ within c.index-then-index-at.ensures (narrow_of 0 0) in
    let here : IsNarrowAt i.entries.items i.lowest c.args.id c.index-then-index-at.result.now.number near = record {
      within = within;
      id_is = omega (arith, c.if-index-at.true, ap (λ (p : NarrowEntry). p.at) read, c.if-id-self.false);
      number_is = sym (ap (λ (p : NarrowEntry). p.number) again);
    } in
    named_in i.entries.items i.lowest c.self.invariant.ascend
    (ids_of_narrow i.entries.items i.lowest (length i.entries.items))
    c.self.invariant.agree c.args.id (Some c.index-then-index-at.result.now.number) (near, here)
    ∙ ap (λ (ids : List ℕ). position (λ x. x == c.args.id) ids) c.self.view_is

pub returns : goal.returns
returns g c =
    let i = c.self.inside in
    named_in i.entries.items i.lowest c.self.invariant.ascend
    (ids_of_narrow i.entries.items i.lowest (length i.entries.items))
    c.self.invariant.agree c.args.id c.search_narrow.result.number (rw c.deref.ensures.value at c.search_narrow.ensures)
    ∙ ap (λ (ids : List ℕ). position (λ x. x == c.args.id) ids) c.self.view_is
