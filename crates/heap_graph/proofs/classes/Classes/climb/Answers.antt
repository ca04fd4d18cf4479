-- A class that is put on the path is no longer unknown, so fewer are. If the climb ends, it ends above the path.
use Rattle.heap_graph.proofs.Words.{AreFates, Contains, IsClimb, IsTop, List, [], ids_of, set, subst, sym, ℕ, ◌++◌, ◌∙◌}
use Rattle.heap_graph.proofs.Words.{◌∷◌}
use lib.ListN.{length-set}
use Rattle.heap_graph.proofs.ClassTableLaws.{same_count}
use Rattle.heap_graph.proofs.ClimbLaws.{climb_end, climb_step}
use Rattle.heap_graph.proofs.FateLaws.{fewer_unknown, stay_open}
use Rattle.heap_graph.specs.declared.classes.fate.Fate.TheVariants as fates
use Rattle.heap_graph.proofs.classes.Classes.climb.Goals as goal

pub up-smaller : goal.up-smaller
up-smaller g c = fewer_unknown c.up.known c.up.at
    (c.up.invariant.climbs c.requires.heap.0 c.requires.heap.1 c.requires.heap.2).unknown

pub up-preserved : goal.up-preserved
up-preserved g c = record {
  stays = λ k it. stay_open c.up.known c.up.at fates.OnPath fates.Unknown
      (c.up.invariant.climbs c.requires.heap.0 c.requires.heap.1 c.requires.heap.2).unknown (λ h. h) k
      (c.up.invariant.stays k it);
  climbs = λ heap are start.
      let s = c.args.self.now.view.id_size in
      let ids = ids_of c.args.self.now.table.entries in
      let known = set c.up.known c.up.at fates.OnPath in
      subst (λ (p : List ℕ). IsClimb s heap ids c.args.first p known c.in-Up.next)
      (sym c.in_ok-push.ensures.items)
      (climb_step c.args.self.now.view heap c.args.self.now.table.entries c.args.first c.up.path.items c.up.known
      c.up.at are (c.up.invariant.climbs heap are start) c.in-Up.next
      (λ super known under path. c.in-Up.ensures heap (c.up.path.items ++ c.up.at ∷ []) super are known under path));
}

pub returns-in-End-clause-stays : goal.returns-in-End-clause-stays
returns-in-End-clause-stays g c =
    λ k it. stay_open c.up.known c.up.at fates.OnPath fates.Unknown
    (c.up.invariant.climbs c.requires.heap.0 c.requires.heap.1 c.requires.heap.2).unknown (λ h. h) k
    (c.up.invariant.stays k it)

pub returns-in-End-clause-top : goal.returns-in-End-clause-top
returns-in-End-clause-top g c = λ heap are start.
    let s = c.args.self.now.view.id_size in
    let ids = ids_of c.args.self.now.table.entries in
    let known = set c.up.known c.up.at fates.OnPath in
    subst
    (λ (p : List ℕ). AreFates s heap ids p known × IsTop s heap ids p c.in-End.fate × Contains p c.args.first)
    (sym c.in_ok-push.ensures.items)
    (climb_end c.args.self.now.view heap c.args.self.now.table.entries c.args.first c.up.path.items c.up.known c.up.at
    are (c.up.invariant.climbs heap are start) c.in-End.fate
    (λ super known under path. c.in-End.ensures heap (c.up.path.items ++ c.up.at ∷ []) super are known under path))

pub next_step-requires-clause-each : goal.next_step-requires-clause-each
next_step-requires-clause-each g c =
    let heap = c.requires.heap in
    let climb = c.up.invariant.climbs heap.0 heap.1 heap.2 in
    length-set c.up.known c.up.at fates.OnPath ∙ climb.fates_are.one_each ∙ same_count c.args.self.now.table.entries

pub next_step-requires-clause-heap : goal.next_step-requires-clause-heap
next_step-requires-clause-heap g c = (c.requires.heap.0, c.requires.heap.1)

pub up-init : goal.up-init
up-init g c = record { stays = λ k it. it; climbs = λ heap are start. start }
