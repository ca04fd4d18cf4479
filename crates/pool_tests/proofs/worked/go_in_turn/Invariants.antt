-- Between two turns nothing is held.
use Rattle.pool_tests.specs.Rounds.{HasNone, IsSameWorker}
use Rattle.pool_tests.proofs.worked.go_in_turn.Given as goal

abbrev pub invariant-loop-who : goal.invariant-loop-who
invariant-loop-who g l =
    (IsSameWorker l.initial.one l.one × IsSameWorker l.initial.other l.other) × (HasNone l.one × HasNone l.other)
