-- The three pops, one after the other.
use Rattle.std.proofs.Common.{[], ◌∷◌}
use Rattle.pool_tests.proofs.waiting.pop_three.Goals as goal

pub returns-clause-held : goal.returns-clause-held
returns-clause-held g c =
    let one = c.pop_bare.ensures.held 2 [] c.requires.none in
    let two = c.pop_bare-second.ensures.held 2 (0 ∷ []) one.0 in
    (c.pop_bare-third.ensures.held 2 (0 ∷ 1 ∷ []) two.0).0

pub returns-clause-two : goal.returns-clause-two
returns-clause-two g c =
    let one = c.pop_bare.ensures.held 2 [] c.requires.none in
    let two = c.pop_bare-second.ensures.held 2 (0 ∷ []) one.0 in
    (two.1, (c.pop_bare-third.ensures.held 2 (0 ∷ 1 ∷ []) two.0).1)

pub pop_bare-second-requires-clause-awake : goal.pop_bare-second-requires-clause-awake
pop_bare-second-requires-clause-awake g c = (c.pop_bare.ensures.held 2 [] c.requires.none).0.awake

pub pop_bare-third-requires-clause-awake : goal.pop_bare-third-requires-clause-awake
pop_bare-third-requires-clause-awake g c =
    let one = c.pop_bare.ensures.held 2 [] c.requires.none in (c.pop_bare-second.ensures.held 2 (0 ∷ []) one.0).0.awake
