-- If the layout above is whole, so is that of the class. If the chain above is cut or endless, so is that of the class.
use Rattle.heap_graph.proofs.Words.{Fate, IsChain, IsFate, ids_of, subst, sym, ℕ, ◌∷◌}
use Rattle.heap_graph.specs.declared.classes.fate.Fate.TheVariants as fates
use Rattle.heap_graph.proofs.FateLaws.{chain_at, fate_up}
use Rattle.heap_graph.proofs.classes.Classes.fate_below.Goals as goal

pub layout_below-requires-clause-heap : goal.layout_below-requires-clause-heap
layout_below-requires-clause-heap g c =
    let s = c.args.self.now.view.id_size in
    let ids = ids_of c.args.self.now.table.entries in
    let heap = c.requires.heap.0 in
    let super = c.requires.heap.1 in
    let fate : IsFate s heap ids super (fates.Whole c.in-Whole.layout) =
    subst (λ (f : Fate). IsFate s heap ids super f) c.in-Whole.is c.requires.heap.4 in (
      heap,
      c.requires.heap.3.class,
      fate.0,
      c.requires.heap.2,
      chain_at c.requires.heap.3 fate.0 fate.1,
      fate.2,
    )

pub returns-in-Whole-clause-fate : goal.returns-in-Whole-clause-fate
returns-in-Whole-clause-fate g c = λ heap super are under told.
    let s = c.args.self.now.view.id_size in
    let ids = ids_of c.args.self.now.table.entries in
    let fate : IsFate s heap ids super (fates.Whole c.in-Whole.layout) =
    subst (λ (f : Fate). IsFate s heap ids super f) c.in-Whole.is told in (
      under.class ∷ fate.0,
      (under.named, subst (λ (id : ℕ). IsChain heap id fate.0) (sym under.super_is) fate.1),
      c.layout_below.ensures heap under.class fate.0 are
          (chain_at under fate.0 fate.1) fate.2,
    )

pub returns-in_default-clause-fate : goal.returns-in_default-clause-fate
returns-in_default-clause-fate g c =
    λ heap super are under told. fate_up under c.args.self.now.view.id_size c.args.above c.in_default.not-Whole told
