-- Sorting loses no extent, and pruned extents have the same objects.
use Rattle.std.proofs.Common.{arith, sym, ◌∙◌}
use Rattle.id_index.proofs.Telling.{first_repeated, kept_few, kept_tell, same_ids, sorted_extents}
use Rattle.id_index.proofs.extent_index_builder.ExtentIndexBuilder.finish.Goals as goal

pub least_repeat-repeat-requires : goal.least_repeat-repeat-requires
least_repeat-repeat-requires g c =
    rw c.deref.ensures.value (sorted_extents _ _ _ _ _ c.self.invariant
    (c.shrink_to_fit.ensures.items ∙ c.in_ok-close.ensures.extents)
    c.sort_extents.ensures.permutation c.in_ok-sort_extents.ensures.sorted)

pub prune-kept-requires : goal.prune-kept-requires
prune-kept-requires g c =
    sorted_extents _ _ _ _ _ c.self.invariant (c.shrink_to_fit.ensures.items ∙ c.in_ok-close.ensures.extents)
    c.sort_extents.ensures.permutation c.in_ok-sort_extents.ensures.sorted

pub of-requires-clause-few : goal.of-requires-clause-few
of-requires-clause-few g c =
    rw c.deref-2.ensures.value (kept_few _ _ _ _ _ c.self.invariant
    (c.shrink_to_fit.ensures.items ∙ c.in_ok-close.ensures.extents)
    c.sort_extents.ensures.permutation c.in_ok-sort_extents.ensures.sorted _ _ c.prune-kept.ensures.pruned)

pub invariant_of-result : goal.invariant_of-result
invariant_of-result g c =
    let closed = c.shrink_to_fit.ensures.items ∙ c.in_ok-close.ensures.extents in
    let it = c.prune-kept.ensures.pruned in
    record {
      within = omega (arith, it.order, it.long);
      extents = it.pruned.ascending;
      few = c.prune-kept.ensures.few;
      tell = kept_tell _ _ _ _ _ c.self.invariant closed c.sort_extents.ensures.permutation
          c.in_ok-sort_extents.ensures.sorted _ _ it;
      begun = rw c.deref-2.ensures.value at c.in_ok-beginnings.ensures;
      repeated = first_repeated _ _ _ _ _ c.self.invariant closed c.sort_extents.ensures.permutation
          c.in_ok-sort_extents.ensures.sorted _ _ it _ (rw c.deref.ensures.value at c.least_repeat-repeat.ensures);
    }

pub returns : goal.returns
returns g c =
    sym (same_ids _ _ _ _ _ c.self.invariant (c.shrink_to_fit.ensures.items ∙ c.in_ok-close.ensures.extents)
    c.sort_extents.ensures.permutation c.in_ok-sort_extents.ensures.sorted _ _ c.prune-kept.ensures.pruned)
    ∙ c.self.view_is
