-- The account looked up is the one that the tables have at this number.
use Rattle.std.proofs.Common.{◌<◌, ap, sym, subst, ◌∙◌}
use Rattle.mark_core.proofs.Words.{Account, Listing}
use Rattle.mark_core.proofs.Looked.{is_of}
use Rattle.mark_core.proofs.state.State.is_there.Goals as goal

pub returns-in-Some : goal.returns-in-Some
returns-in-Some g c =
    let tables = c.deref.ensures.value ∙ ap (λ (l : Listing). l.accounts) c.self.view_is in
    let is = is_of _ _ c.args.worker _ tables c.in-Some.ensures.lookup.0 c.in-Some.ensures.lookup.1 in (
      (λ yes. (is.0, subst (λ (a : Account). 0 < a.share) is.1 (c.is_there.ensures.0 yes))),
      (λ has. c.is_there.ensures.1 (subst (λ (a : Account). 0 < a.share) (sym is.1) has.1)),
    )
