-- Before the first class no fate is known, after the last each is. What the list says of fates holds with an empty
-- path.
use Rattle.heap_graph.proofs.Words.{AreFatesOf, IsFate, IsKnown, List, [], arith, drop, ids_of, length, rules}
use Rattle.heap_graph.proofs.Words.{slice_index, subst, sym, take, take-append-le, take_all, ℕ, ⊎_elim, ◌++◌, ◌∙◌}
use Rattle.heap_graph.proofs.Words.{◌≡◌}
use Rattle.heap_graph.specs.declared.classes.fate.Fate.{Fate}
use Rattle.heap_graph.specs.declared.classes.fate.Fate.TheVariants as fates
use Rattle.heap_graph.proofs.ClassTableLaws.{same_count}
use Rattle.heap_graph.proofs.TableGrowth.{below_next}
use Rattle.heap_graph.proofs.classes.Classes.settle_all.Goals as goal

pub loop-number-init : goal.loop-number-init
loop-number-init g c = record {
  path = search rules;
  fates = λ heap are.
      let ids = ids_of c.args.self.now.table.entries in
      record {
        one_each = c.in_ok-known.ensures.count ∙ c.len-count.ensures ∙ sym (same_count c.args.self.now.table.entries);
        each = λ k f is. subst (λ (f : Fate). IsFate c.args.self.now.view.id_size heap ids (slice_index ids k) f)
            (sym (c.in_ok-known.ensures.each k f is)) tt;
        on_path = λ k is. search (rules, c.in_ok-known.ensures.each k fates.OnPath is);
      };
  each = λ k h. absurd (omega (arith, h));
}

pub returns : goal.returns
returns g c heap are =
    let loop = c.loop-number.invariant in
    let count = same_count c.args.self.now.table.entries in
    record {
      fates_are = loop.fates heap are;
      each_known = λ k below. loop.each k (omega (arith, below, count, c.len-count.ensures, c.loop-number-test.false));
    }

pub settle-requires-clause-heap : goal.settle-requires-clause-heap
settle-requires-clause-heap g c =
    let heap = c.requires.heap in (
      heap.0,
      heap.1,
      subst (λ (fs : List Fate). AreFatesOf c.args.self.now heap.0 [] fs) (sym c.deref_mut.ensures.value)
          (c.loop-number.invariant.fates heap.0 heap.1),
    )

pub loop-number-preserved : goal.loop-number-preserved
loop-number-preserved g c =
    let before = c.loop-number.known in
    let now = c.settle.new.known in
    let read = sym c.deref_mut.ensures.value in
    let heap = c.requires.heap in
    let were = subst (λ (fs : List Fate). AreFatesOf c.args.self.now heap.0 [] fs) read
    (c.loop-number.invariant.fates heap.0 heap.1) in
    let are = c.in_ok-settle.ensures.fates heap.0 heap.1 were in
    let long : before.len ≡ length now = omega (arith, c.deref_mut.ensures.len, were.one_each, are.one_each) in
    let same : take before.len (now ++ drop (length now) before.items) ≡ now =
    take-append-le before.len now (drop (length now) before.items) (omega (arith, long))
    ∙ take_all before.len now (omega (arith, long)) in
    record {
      path = c.in_ok-settle.ensures.path;
      fates = λ heap are. subst (λ (fs : List Fate). AreFatesOf c.args.self.now heap [] fs) (sym same)
          (c.in_ok-settle.ensures.fates heap are
          (subst (λ (fs : List Fate). AreFatesOf c.args.self.now heap [] fs) read
          (c.loop-number.invariant.fates heap are)));
      each = λ k below. subst (λ (fs : List Fate). IsKnown fs k) (sym same) (⊎_elim
          (λ less. c.in_ok-settle.ensures.stays k
          (subst (λ (fs : List Fate). IsKnown fs k) read (c.loop-number.invariant.each k less)))
          (λ (is : k ≡ c.loop-number.number). subst (λ (n : ℕ). IsKnown now n) (sym is) c.in_ok-settle.ensures.known)
          (below_next k c.loop-number.number below));
    }
