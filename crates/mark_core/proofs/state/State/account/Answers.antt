-- The account that is found is the one at this number in the tables. If `None` is returned, the number is out of range,
-- or the account there has no share.
use Rattle.std.proofs.Common.{◌<◌, ap, refl, sym, subst, ◌∙◌}
use Rattle.std.proofs.lemmas.Bool.{false≢true}
use Rattle.mark_core.proofs.Words.{Account, Listing}
use Rattle.mark_core.proofs.Looked.{is_of, none_is}
use Rattle.mark_core.proofs.state.State.account.Goals.{in_default-via-in-Some+else-is_there, in_default-via-in_default}
use Rattle.mark_core.proofs.state.State.account.Goals as goal

pub returns-in-Some-clause-there : goal.returns-in-Some-clause-there
returns-in-Some-clause-there g c =
    let tables = c.deref.ensures.value ∙ ap (λ (l : Listing). l.accounts) c.self.view_is in
    let is = is_of _ _ c.args.worker _ tables c.in-Some.ensures.lookup.0 c.in-Some.ensures.lookup.1 in
    let share = c.is_there.ensures.0 c.if-is_there.true in
    ((λ _. (is.0, subst (λ (a : Account). 0 < a.share) is.1 share)), (λ _. refl))

pub returns-in-Some-clause-same : goal.returns-in-Some-clause-same
returns-in-Some-clause-same g c =
    let tables = c.deref.ensures.value ∙ ap (λ (l : Listing). l.accounts) c.self.view_is in
    (is_of _ _ c.args.worker _ tables c.in-Some.ensures.lookup.0 c.in-Some.ensures.lookup.1).1

pub returns-in_default-clause-there : goal.returns-in_default-clause-there
returns-in_default-clause-there g c =
    let tables = c.deref.ensures.value ∙ ap (λ (l : Listing). l.accounts) c.self.view_is in
    elim c.in_default.branch [
      | in_default-via-in-Some+else-is_there w ↦
          let is = is_of _ _ c.args.worker _ tables w.in-Some.ensures.lookup.0 w.in-Some.ensures.lookup.1 in
          let share = λ (a : Account). 0 < a.share in (
            (λ none. absurd (false≢true none)),
            (λ has. sym w.if-is_there.false ∙ w.is_there.ensures.1 (subst share (sym is.1) has.1)),
          )
      | in_default-via-in_default w ↦ (
        (λ none. absurd (false≢true none)),
        (λ has. none_is _ _ c.args.worker tables w.in_default.ensures.lookup.0 has.0),
      )
    ]
