-- The buffer has the expected number, and no items.
use Rattle.std.proofs.Common.{◌≡◌, length, inr, arith}
use Rattle.pool_tests.proofs.SmallRuns.{pops_bare}
use Rattle.pool_tests.proofs.waiting.pop_bare.Goals as goal

pub returns-clause-held : goal.returns-clause-held
returns-clause-held g c n list was =
    let h = c.in-Took.held in
    let index : h.index ≡ c.args.wanted = omega arith in
    let none : length h.items ≡ 0 = omega arith in
    pops_bare c.args.worker.now c.pop.new.worker n list was c.args.which h c.args.wanted c.in-Took.ensures.pops index
    none

pub pop-requires-clause-busy : goal.pop-requires-clause-busy
pop-requires-clause-busy g c = inr c.requires.awake
