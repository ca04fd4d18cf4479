-- Without extents there are no objects.
use Rattle.id_index.proofs.Words.{AreBuilt, List, None, Extent, [], ap, arith, length, subst, sym, with_last}
use Rattle.id_index.proofs.Built.{nothing}
use Rattle.id_index.proofs.extent_index_builder.ExtentIndexBuilder.new.Goals as goal

pub invariant_of-result : goal.invariant_of-result
invariant_of-result g c = record {
  built = subst (λ (ls : List Extent). AreBuilt ls []) (sym c.new.ensures.items) nothing;
  fewer = omega (arith, ap (λ (ls : List Extent). length (with_last ls None)) c.new.ensures.items);
  few = omega arith;
}
