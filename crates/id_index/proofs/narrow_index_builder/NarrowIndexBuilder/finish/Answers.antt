-- Entries that are all set and ascend are those of the objects that were pushed.
use Rattle.id_index.proofs.Words.{ap, arith, length, refl, ℕ, ◌∙◌, ◌≡◌}
use Rattle.id_index.specs.working.NarrowEntries.{AreSet, DoAscend, ids_of_narrow}
use Rattle.id_index.proofs.Placing.{agree}
use Rattle.id_index.proofs.narrow_index_builder.NarrowIndexBuilder.finish.Goals as goal

pub invariant_of-result : goal.invariant_of-result
invariant_of-result g c =
    let b = c.self.inside in
    let up : DoAscend b.entries.items (length b.entries.items) =
    rw c.deref.ensures.value at (c.if-not-do_ascend.ensures.ascend refl) in
    let set : AreSet b.entries.items (length b.entries.items) =
    rw c.deref.ensures.value at (c.if-not-do_ascend.ensures.set refl) in
    let all : b.count ≡ length b.entries.items =
    omega (arith, c.self.invariant.fits, c.if-self-len.false, c.len.ensures) in
    record { ascend = up; agree = agree b.entries.items b.lowest b.count c.self.invariant all set }

pub returns : goal.returns
returns g c =
    let b = c.self.inside in
    let all : length b.entries.items ≡ b.count =
    omega (arith, c.self.invariant.fits, c.if-self-len.false, c.len.ensures) in
    ap (λ (n : ℕ). ids_of_narrow b.entries.items b.lowest n) all ∙ c.self.view_is
