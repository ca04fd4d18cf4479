-- With raised numbers, the extents of the other list have its objects after those of this list.
use Rattle.id_index.proofs.Words.{AreFewBuilt, List, None, Extent, ap, arith, ids_built, length, extent_in, subst, sym}
use Rattle.id_index.proofs.Words.{ℕ}
use Rattle.id_index.proofs.Words.{◌++◌, ◌+◌, ◌<◌, ◌^◌, ◌∙◌}
use Rattle.id_index.proofs.Joining.{all_few, both_extents, few_both, joined_few, joined_ids, may_raise}
use Rattle.id_index.proofs.extent_index_builder.ExtentIndexBuilder.append.Goals as goal

pub push_raised-requires : goal.push_raised-requires
push_raised-requires g c =
    let i = c.self.inside in
    let o = c.other.inside in
    subst (λ (ls : List Extent). (k : ℕ) → k < length ls → (extent_in ls k).first + i.count < 2 ^ 32)
    (sym (c.deref.ensures.value ∙ c.in_ok-close.ensures.extents))
    (may_raise i.extents.items o.extents.items i.last o.last i.count o.count c.self.invariant c.other.invariant
    (few_both _ _ _ _ _ _ c.self.invariant c.other.invariant _ _ c.self.view_is c.other.view_is c.requires))

pub invariant_of-self-in_err-push_raised : goal.invariant_of-self-in_err-push_raised
invariant_of-self-in_err-push_raised g c =
    let i = c.self.inside in
    subst (λ (ls : List Extent). AreFewBuilt ls None (ids_built ls None i.count) i.count)
    (sym (c.in_err-push_raised.ensures.err ∙ c.in_ok-close-2.ensures.extents))
    (all_few i.extents.items i.last i.count c.self.invariant)

pub overflow_add-self : goal.overflow_add-self
overflow_add-self g c = omega (
  arith,
  few_both _ _ _ _ _ _ c.self.invariant c.other.invariant _ _ c.self.view_is c.other.view_is c.requires,
)

pub invariant_of-self-2 : goal.invariant_of-self-2
invariant_of-self-2 g c =
    let i = c.self.inside in
    let o = c.other.inside in
    let all = both_extents _ _ _ _ _ _ c.self.invariant c.other.invariant _ _ _ c.in_ok-push_raised.ensures.extents
    c.in_ok-close-2.ensures.extents (c.deref.ensures.value ∙ c.in_ok-close.ensures.extents) in
    subst (λ (ls : List Extent). AreFewBuilt ls None (ids_built ls None (i.count + o.count)) (i.count + o.count))
    (sym all)
    (joined_few i.extents.items o.extents.items i.last o.last i.count o.count c.self.invariant c.other.invariant
    (few_both _ _ _ _ _ _ c.self.invariant c.other.invariant _ _ c.self.view_is c.other.view_is c.requires))

pub returns : goal.returns
returns g c =
    let i = c.self.inside in
    let o = c.other.inside in
    let all = both_extents _ _ _ _ _ _ c.self.invariant c.other.invariant _ _ _ c.in_ok-push_raised.ensures.extents
    c.in_ok-close-2.ensures.extents (c.deref.ensures.value ∙ c.in_ok-close.ensures.extents) in
    ap (λ (ls : List Extent). ids_built ls None (i.count + o.count)) all
    ∙ sym (joined_ids i.extents.items o.extents.items i.last o.last i.count o.count c.self.invariant c.other.invariant)
    ∙ ap (λ (xs : List ℕ). xs ++ ids_built o.extents.items o.last o.count) c.self.view_is
    ∙ ap (λ (xs : List ℕ). c.args.self.now ++ xs) c.other.view_is
