-- A popped buffer is pushed back, and a lost try changes nothing that is required of the worker.
use Rattle.std.proofs.Common.{◌≡◌, [], ◌∷◌, length, inr, arith}
use Rattle.mark_core.specs.declared.which.Which.TheVariants.{Empty}
use Rattle.pool_tests.proofs.Races.{has_it, lost_try, none_left, took_try, tried_nothing}
use Rattle.pool_tests.proofs.race.loses.Goals as goal

pub push_bare-requires-clause-held : goal.push_bare-requires-clause-held
push_bare-requires-clause-held g c =
    let h = c.in-Took.held in
    let none : length h.items ≡ 0 = omega arith in
    let took = took_try c.args.worker.now c.try_pop.new.worker 2 [] c.requires.none Empty h c.in-Took.ensures.pops
    none in
    (2, h.index ∷ [], took.0, has_it h.index, took.1)

pub returns-in-Took-clause-none : goal.returns-in-Took-clause-none
returns-in-Took-clause-none g c =
    let h = c.in-Took.held in
    let none : length h.items ≡ 0 = omega arith in
    let took = took_try c.args.worker.now c.try_pop.new.worker 2 [] c.requires.none Empty h c.in-Took.ensures.pops
    none in
    none_left c.push_bare.new.worker 2 h.index (c.push_bare.ensures.held 2 (h.index ∷ []) took.0)

pub returns-in-Empty-clause-none : goal.returns-in-Empty-clause-none
returns-in-Empty-clause-none g c =
    tried_nothing c.args.worker.now c.try_pop.new.worker 2 [] c.requires.none Empty c.in-Empty.ensures.pops

pub returns-in-Lost-clause-none : goal.returns-in-Lost-clause-none
returns-in-Lost-clause-none g c =
    lost_try c.args.worker.now c.try_pop.new.worker 2 [] c.requires.none Empty c.in-Lost.ensures.pops

pub try_pop-requires-clause-busy : goal.try_pop-requires-clause-busy
try_pop-requires-clause-busy g c = inr c.requires.none.awake
