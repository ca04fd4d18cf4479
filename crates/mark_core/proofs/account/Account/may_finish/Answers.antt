-- An object of the charge may be finished if all its successors were seen, and only then.
use Rattle.std.proofs.Common.{refl}
use Rattle.mark_core.proofs.account.Account.may_finish.Goals as goal

pub returns-then-contains : goal.returns-then-contains
returns-then-contains g c = rw (← c.self.view_is) (
  λ yes. (c.if-contains.ensures.0 refl, c.has_successors_in.ensures.0 yes),
  λ may. c.has_successors_in.ensures.1 may.1,
)
