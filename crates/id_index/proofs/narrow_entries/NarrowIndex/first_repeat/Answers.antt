-- No two objects have one identifier.
use Rattle.id_index.proofs.Words.{IsFirstRepeat, List, arith, length, length-map-range_with_len, subst, sym, ℕ, ◌≡◌}
use Rattle.id_index.specs.working.NarrowEntries.{id_in_narrow, ids_of_narrow}
use Rattle.id_index.proofs.Narrow.{no_repeat}
use Rattle.id_index.proofs.narrow_entries.NarrowIndex.first_repeat.Goals as goal

pub returns : goal.returns
returns g c =
    let i = c.self.inside in
    let ids : List ℕ = ids_of_narrow i.entries.items i.lowest (length i.entries.items) in
    let count : c.len.result ≡ length i.entries.items = omega (arith, c.len.ensures) in
    subst (λ (n : ℕ). IsFirstRepeat c.args.self.now n) (sym count)
    (subst (λ (xs : List ℕ). IsFirstRepeat xs (length i.entries.items)) c.self.view_is
    (subst (λ (n : ℕ). IsFirstRepeat ids n)
    (length-map-range_with_len (id_in_narrow i.entries.items i.lowest) 0 (length i.entries.items))
    (no_repeat i.entries.items i.lowest c.self.invariant.ascend ids c.self.invariant.agree)))
