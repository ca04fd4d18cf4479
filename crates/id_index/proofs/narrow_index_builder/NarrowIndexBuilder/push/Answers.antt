-- The entry goes to an index at which no entry is set.
use Rattle.id_index.proofs.Words.{List, [], ap, arith, get_or_read, length, sym, ℕ, ◌++◌, ◌+◌, ◌-◌, ◌<◌, ◌∙◌}
use Rattle.id_index.proofs.Words.{◌∷◌, ◌≡◌}
use Rattle.id_index.specs.working.NarrowEntries.{narrow_in, narrow_of}
use Rattle.id_index.specs.declared.narrow_entries.NarrowEntry.{NarrowEntry}
use Rattle.id_index.proofs.Placing.{placed, placed_ids}
use Rattle.id_index.proofs.narrow_index_builder.NarrowIndexBuilder.push.Goals as goal

pub invariant_of-self : goal.invariant_of-self
invariant_of-self g c =
    let b = c.self.inside in
    let slot : ℕ = c.guess-slot.result in
    let within : slot < length b.entries.items = omega (arith, c.if-slot-len.false, c.len-else-at.ensures) in
    let read : c.index.result.now ≡ narrow_in b.entries.items slot =
    get_or_read b.entries.items slot c.index.result.now within c.index.ensures (narrow_of 0 0) in
    placed b.entries.items b.lowest b.count slot _ c.self.invariant within
    (sym (ap (λ (p : NarrowEntry). p.number) read) ∙ omega (arith, c.if-index.false))
    (omega (arith, c.if-self-len.false, c.len.ensures))

pub returns : goal.returns
returns g c = λ _.
    let b = c.self.inside in
    let slot : ℕ = c.guess-slot.result in
    let within : slot < length b.entries.items = omega (arith, c.if-slot-len.false, c.len-else-at.ensures) in
    let read : c.index.result.now ≡ narrow_in b.entries.items slot =
    get_or_read b.entries.items slot c.index.result.now within c.index.ensures (narrow_of 0 0) in
    let id : b.lowest + (c.args.id - b.lowest) ≡ c.args.id = omega (arith, c.if-id-self.false) in
    placed_ids b.entries.items b.lowest b.count slot (c.args.id - b.lowest) c.self.invariant within
    (sym (ap (λ (p : NarrowEntry). p.number) read) ∙ omega (arith, c.if-index.false))
    (omega (arith, c.if-self-len.false, c.len.ensures))
    ∙ ap (λ (xs : List ℕ). xs ++ (b.lowest + (c.args.id - b.lowest)) ∷ []) c.self.view_is
    ∙ ap (λ (x : ℕ). c.args.self.now ++ x ∷ []) id
