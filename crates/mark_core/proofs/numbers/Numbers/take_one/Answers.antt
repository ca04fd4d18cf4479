-- The number at the first position is removed. If no position is found the list stays as it is.
use Rattle.std.proofs.Common.{sym, ◌∙◌}
use Rattle.mark_core.proofs.Taking.{remove-position, remove_one-none, none_is_not_some}
use Rattle.mark_core.proofs.numbers.Numbers.take_one.Goals as goal

pub returns-in-Some-clause-left : goal.returns-in-Some-clause-left
returns-in-Some-clause-left g c =
    let p = remove-position c.args.self.now c.args.number c.in-Some.place
    (sym c.place_of.ensures.first ∙ c.in-Some.is) in
    rw (c.remove.ensures.items, c.self.view_is) p

pub returns-in-None-clause-left : goal.returns-in-None-clause-left
returns-in-None-clause-left g c =
    sym (remove_one-none c.args.self.now c.args.number (λ here. none_is_not_some (c.in-None.ensures.there.1 here)))
