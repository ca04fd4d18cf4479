-- Buffer 1 is still held after buffer 2 was pushed.
use Rattle.std.proofs.Common.{◌≡◌, [], ◌∷◌, ap, refl, subst, arith}
use Rattle.mark_core.specs.Lists.{remove_one}
use Rattle.buffer_pool.specs.Calls.{HeldBuffer}
use Rattle.pool_tests.specs.Worked.{Holds}
use Rattle.pool_tests.proofs.SmallRuns.{by_number}
use Rattle.pool_tests.proofs.waiting.push_two.Goals as goal

pub push_bare-requires-2-clause-held : goal.push_bare-requires-2-clause-held
push_bare-requires-2-clause-held g c =
    let all = 0 ∷ 1 ∷ 2 ∷ [] in
    let third : c.args.third.index ≡ 2 = ap (λ (l : HeldBuffer). l.index) c.requires.two.1 in
    let pushed = c.push_bare.ensures.held 2 all (c.check_full_is_empty.ensures.held 2 all c.requires.held) in
    let now = c.check_full_is_empty-2.ensures.held 2 (remove_one c.args.third.index all) pushed in
    let second = by_number 2 1 (0 ∷ 1 ∷ []) c.args.second c.requires.two.0 (1, omega arith, refl) in
    (2, 0 ∷ 1 ∷ [], subst (λ i. Holds 2 (remove_one i all) c.check_full_is_empty-2.new.worker) third now, second.0, second.1)
