-- All successors of the object that come from pairs before the current one were seen.
use Rattle.std.proofs.Common.{◌≡◌, ℕ, ◌<◌, get_or, Contains}
use Rattle.mark_core.proofs.setup.Setup.has_successors_in.Given as goal

abbrev pub invariant-loop-before : goal.invariant-loop-before
invariant-loop-before g l = (s k : ℕ) → k < l.before-index → get_or l.self.pairs k (l.object, s) ≡ (l.object, s)
    → Contains l.seen s
