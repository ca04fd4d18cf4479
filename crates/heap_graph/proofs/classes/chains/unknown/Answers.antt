-- After fates that are all unknown one more unknown fate is added.
use Rattle.std.proofs.Common.{ap, arith, length, length-append, refl, ◌∷◌, []}
use Rattle.heap_graph.specs.declared.classes.fate.Fate.TheVariants as fates
use Rattle.heap_graph.proofs.FateLaws.{unknown_more}
use Rattle.heap_graph.proofs.classes.chains.unknown.Goals as goal

pub loop-known-preserved : goal.loop-known-preserved
loop-known-preserved g c = record {
  count = omega (
    arith,
    ap length c.in_ok-push.ensures.items,
    length-append c.loop-known.known.items (fates.Unknown ∷ []),
  );
  each = unknown_more c.loop-known.known.items c.push.new.self.items fates.Unknown c.in_ok-push.ensures.items refl
      c.loop-known.invariant.each;
}
