-- The superclass of the last class of the path has the fate, so the class's own fate follows, and so on down.
use Rattle.heap_graph.proofs.Words.{AreFatesOf, Contains, List, [], arith, inl, length, rules, subst, ℕ, ⊎_elim, ◌<◌}
use Rattle.heap_graph.proofs.Words.{◌≡◌}
use Rattle.heap_graph.proofs.ClassTableLaws.{same_count}
use Rattle.heap_graph.proofs.ClimbLaws.{back_fates, back_known, back_top, last_under}
use Rattle.heap_graph.proofs.FateLaws.{stay_known}
use Rattle.heap_graph.proofs.PathLaws.{contains_none}
use Rattle.heap_graph.proofs.classes.Classes.unwind.Goals as goal

pub fate_below-fate-requires-clause-below : goal.fate_below-fate-requires-clause-below
fate_below-fate-requires-clause-below g c =
    let top = c.loop-number.invariant.top c.requires.heap.0 c.requires.heap.1 c.requires.heap.2 c.requires.heap.3 in
    let u = last_under _ _ c.in-Some.ensures.items top in
    omega (arith, u.1.below, same_count c.args.self.now.table.entries)

pub fate_below-fate-requires-clause-heap : goal.fate_below-fate-requires-clause-heap
fate_below-fate-requires-clause-heap g c =
    let top = c.loop-number.invariant.top c.requires.heap.0 c.requires.heap.1 c.requires.heap.2 c.requires.heap.3 in
    let u = last_under _ _ c.in-Some.ensures.items top in
    (c.requires.heap.0, u.0, c.requires.heap.1, u.1, u.2)

pub bounds-known-number : goal.bounds-known-number
bounds-known-number g c =
    let top = c.loop-number.invariant.top c.requires.heap.0 c.requires.heap.1 c.requires.heap.2 c.requires.heap.3 in
    let u = last_under _ _ c.in-Some.ensures.items top in
    let fates = c.loop-number.invariant.fates c.requires.heap.0 c.requires.heap.1 c.requires.heap.2 c.requires.heap.3 in
    omega (arith, u.1.below, fates.one_each)

pub loop-number-preserved : goal.loop-number-preserved
loop-number-preserved g c =
    let top₀ = c.loop-number.invariant.top c.requires.heap.0 c.requires.heap.1 c.requires.heap.2 c.requires.heap.3 in
    let fates₀ =
    c.loop-number.invariant.fates c.requires.heap.0 c.requires.heap.1 c.requires.heap.2 c.requires.heap.3 in
    let under₀ = last_under _ _ c.in-Some.ensures.items top₀ in
    let below : c.in-Some.number < length c.loop-number.known = omega (arith, under₀.1.below, fates₀.one_each) in
    let settled = c.fate_below-fate.ensures.settled top₀.settled in
    record {
      stays = λ k it. stay_known _ _ _ below settled k (c.loop-number.invariant.stays k it);
      settled = λ k h.
          back_known _ _ _ _ k _ c.in-Some.ensures.items below settled (c.loop-number.invariant.settled k h);
      fates = λ heap are known top. back_fates _ _ c.in-Some.ensures.items
          (c.loop-number.invariant.top heap are known top) _
          (λ super under fate. c.fate_below-fate.ensures.fate heap super are under fate)
          c.fate_below-fate.ensures.settled _ (c.loop-number.invariant.fates heap are known top);
      top = λ heap are known top. back_top _ _ c.in-Some.ensures.items (c.loop-number.invariant.top heap are known top)
          _ (λ super under fate. c.fate_below-fate.ensures.fate heap super are under fate)
          c.fate_below-fate.ensures.settled;
    }

pub loop-number-init : goal.loop-number-init
loop-number-init g c = record {
  stays = λ k it. it;
  settled = λ k it. inl it;
  fates = λ heap are known top. known;
  top = λ heap are known top. top;
}

pub returns-clause-stays : goal.returns-clause-stays
returns-clause-stays g c = c.loop-number.invariant.stays

pub returns-clause-known : goal.returns-clause-known
returns-clause-known g c = λ k it.
    let empty : c.loop-number.path.items ≡ [] = search rules in ⊎_elim
    (λ left. absurd (contains_none k (subst (λ (p : List ℕ). Contains p k) empty left)))
    (λ known. known) (c.loop-number.invariant.settled k it)

pub returns-clause-fates : goal.returns-clause-fates
returns-clause-fates g c = λ heap are fates top.
    let empty : c.loop-number.path.items ≡ [] = search rules in
    subst (λ (p : List ℕ). AreFatesOf c.args.self.now heap p c.loop-number.known) empty
    (c.loop-number.invariant.fates heap are fates top)
