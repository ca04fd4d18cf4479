-- The identifier of a class is found at its entry, since no other class of the table has it.
use Rattle.std.proofs.Common.{List, Some, length, nat_eq, slice_get, subst, sym, ℕ, ◌<◌, ◌≡◌, ◌∙◌}
use Rattle.std.specs.Prelude.{position, ◌==◌}
use Rattle.std.specs.List.{IsDistinct}
use Rattle.std.proofs.lemmas.Cmp.{nat_eq_equiv}
use Rattle.indexmap.proofs.MapLemmas.{index-first}
use Rattle.indexmap.proofs.RemoveLemmas.{own_first}
use Rattle.heap_graph.specs.working.ClassList.{TableEntry, ids_of}
use Rattle.heap_graph.proofs.ClassTableLaws.{there_is}

pub own_place : (es : List TableEntry) (k id : ℕ) → IsDistinct nat_eq (ids_of es) → k < length es
    → ((e : TableEntry) → slice_get es k ≡ Some e → e.0 ≡ id) → Some k ≡ position (λ x. x == id) (ids_of es)
own_place es k id unique below bears =
    let it = there_is es k below in
    let here : position (nat_eq it.0.0) (ids_of es) ≡ Some k =
    index-first (nat_eq it.0.0) es k (own_first nat_eq nat_eq_equiv es k it.0.0 it.0.1 unique it.1) in
    subst (λ (n : ℕ). Some k ≡ position (λ x. x == n) (ids_of es)) (bears it.0 it.1)
    (sym here ∙ (λ j. position (λ x. nat_eq_equiv.symm it.0.0 x j) (ids_of es)))
