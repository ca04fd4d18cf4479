-- Buffer 1 is held after both were popped.
use Rattle.std.proofs.Common.{[], ◌∷◌, refl, arith}
use Rattle.pool_tests.proofs.SmallRuns.{by_number}
use Rattle.pool_tests.proofs.waiting.pop_two_push_one.Goals as goal

pub push_bare-requires-clause-held : goal.push_bare-requires-clause-held
push_bare-requires-clause-held g c =
    let one = c.pop_bare-first.ensures.held 2 [] c.requires.none in
    let seen = c.check_full_is_empty.ensures.held 2 (1 ∷ []) one.0 in
    let two = c.pop_bare.ensures.held 2 (1 ∷ []) seen in
    let now = c.check_full_is_empty-2.ensures.held 2 (1 ∷ 2 ∷ []) two.0 in
    let first = by_number 2 1 (1 ∷ 2 ∷ []) c.pop_bare-first.result one.1 (0, omega arith, refl) in
    (2, 1 ∷ 2 ∷ [], now, first.0, first.1)

pub pop_bare-requires-clause-awake : goal.pop_bare-requires-clause-awake
pop_bare-requires-clause-awake g c =
    let one = c.pop_bare-first.ensures.held 2 [] c.requires.none in
    (c.check_full_is_empty.ensures.held 2 (1 ∷ []) one.0).awake
