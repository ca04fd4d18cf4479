-- The first object that is not marked comes before the others that are not.
use Rattle.std.proofs.Common.{◌≡◌, [], ap, arith, length, rules, sym, ◌∙◌}
use Rattle.histogram.proofs.UnmarkedLaws.{none_unmarked, unmarked_then}
use Rattle.histogram.proofs.unmarked_numbers.UnmarkedNumbersIterator.next.Goals as goal

pub returns-in_err-object-clause-steps : goal.returns-in_err-object-clause-steps
returns-in_err-object-clause-steps g c =
    let n = c.self.inside in
    let none : c.args.self.now ≡ [] =
    sym c.self.view_is ∙ none_unmarked n.marks.now.marks n.from (sym c.in_err-object.was ∙ c.next_unmarked.ensures)
    in
    search (rules, none)

pub overflow_add-self : goal.overflow_add-self
overflow_add-self g c =
    let n = c.self.inside in
    let below = (unmarked_then n.marks.now.marks n.from c.in_ok-object.object c.in_ok-object.ensures).1 in
    omega (arith, below, c.self.invariant)

pub returns-clause-steps : goal.returns-clause-steps
returns-clause-steps g c =
    let n = c.self.inside in
    sym c.self.view_is ∙ (unmarked_then n.marks.now.marks n.from c.in_ok-object.object c.in_ok-object.ensures).0

pub returns-clause-goes : goal.returns-clause-goes
returns-clause-goes g c =
    let fewer = ap length (returns-clause-steps g c) in
    record { on = λ _. (tt, tt, omega (arith, fewer)); keeps = tt; rests = λ _. tt }
