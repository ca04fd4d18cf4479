-- The leader gave a unit to each of the others so far, and nothing else of it changed.
use Rattle.std.proofs.Common.{◌≡◌, ◌+◌}
use Rattle.drain.specs.working.AtWork.{IsFree}
use Rattle.drain_tests.proofs.leading.behind_others.Given as goal

abbrev pub invariant-loop : goal.invariant-loop
invariant-loop g l =
    let now = l.leader.book in
    let was = l.initial.leader.book in
    (l.leader.pool ≡ l.initial.leader.pool) × (now.setup ≡ was.setup) × IsFree l.leader
    × (now.account.finished ≡ was.account.finished) × (now.account.share + l.counter ≡ was.account.share)
