-- The buffer has no items. If there was none, nothing changed.
use Rattle.std.proofs.Common.{◌≡◌, [], length, inr, arith}
use Rattle.pool_tests.proofs.Races.{found_nothing, took_at_last}
use Rattle.pool_tests.proofs.race.pop_any.Goals as goal

pub returns-in-Took-clause-held : goal.returns-in-Took-clause-held
returns-in-Took-clause-held g c =
    let none : length c.in-Took.held.items ≡ 0 = omega arith in
    took_at_last c.args.worker.now c.pop.new.worker 2
    [] c.requires.none c.args.which c.in-Took.held c.in-Took.ensures.pops none

pub returns-in-Empty-clause-held : goal.returns-in-Empty-clause-held
returns-in-Empty-clause-held g c =
    found_nothing c.args.worker.now c.pop.new.worker 2 [] c.requires.none c.args.which c.in-Empty.ensures.pops

pub pop-requires-clause-busy : goal.pop-requires-clause-busy
pop-requires-clause-busy g c = inr c.requires.none.awake
