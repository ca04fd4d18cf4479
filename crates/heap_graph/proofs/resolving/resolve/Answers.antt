-- One more identifier is resolved as its look-up says, and counts as missing if `push_target` returns true.
use Rattle.std.proofs.Common.{Bool, arith, false, length, subst, sym, true, ℕ, ◌+◌, ◌<◌, ◌≡◌, take, get_or}
use Rattle.heap_graph.specs.working.Resolving.{Resolves, ResolvesOne}
use Rattle.heap_graph.proofs.Naming.{resolves_found, resolves_unresolved}
use Rattle.heap_graph.proofs.resolving.resolve.Goals as goal
use Rattle.heap_graph.proofs.resolving.resolve.Goals.{else-branch, then-branch}

pub loop-id-preserved : goal.loop-id-preserved
loop-id-preserved g c =
    let at = c.loop-id.id-index in
    let ids = c.args.ids.now in
    let first = c.args.targets.now.items in
    let old = c.loop-id.targets.items in
    let new = c.push_target.new.targets.items in
    let below : at < length ids = omega arith in
    let one : (b : Bool) → c.in_ok-push_target.field-0 ≡ b
    → ResolvesOne c.args.index.now (get_or ids at 0) old new b =
    λ b e. subst (λ (x : Bool). ResolvesOne c.args.index.now (get_or ids at 0) old new x) e
    c.in_ok-push_target.ensures in
    elim c.if-branch.branch [
      | then-branch w ↦ record {
        resolved = subst (λ (n : ℕ). Resolves c.args.index.now (take (at + 1) ids) first new n) (sym w.unresolved-is)
            (resolves_unresolved c.args.index.now ids first old new at c.loop-id.unresolved below
            c.loop-id.invariant.resolved (one true w.if-branch.true));
        few = omega arith;
      }
      | else-branch w ↦ record {
        resolved = subst (λ (n : ℕ). Resolves c.args.index.now (take (at + 1) ids) first new n) (sym w.unresolved-is)
            (resolves_found c.args.index.now ids first old new at c.loop-id.unresolved below
            c.loop-id.invariant.resolved (one false w.if-branch.false));
        few = omega arith;
      }
    ]
