-- The buffer that was popped is pushed.
use Rattle.std.proofs.Common.{[], ◌∷◌}
use Rattle.pool_tests.proofs.Races.{has_it, none_left}
use Rattle.pool_tests.proofs.race.carry.Goals as goal

pub push_bare-requires-clause-held : goal.push_bare-requires-clause-held
push_bare-requires-clause-held g c = let h = c.in-Some.held in
    (2, h.index ∷ [], c.in-Some.ensures.held.0, has_it h.index, c.in-Some.ensures.held.1)

pub returns-in-Some-clause-none : goal.returns-in-Some-clause-none
returns-in-Some-clause-none g c =
    let i = c.in-Some.held.index in
    none_left c.push_bare.new.worker 2 i (c.push_bare.ensures.held 2 (i ∷ []) c.in-Some.ensures.held.0)
