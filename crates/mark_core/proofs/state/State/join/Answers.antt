-- The law bounds the sums of all shares and of all idle numbers, so those of two accounts fit.
use Rattle.std.proofs.Common.{◌≡◌, ◌<◌, get_or, sym, subst, refl, ◌∙◌}
use Rattle.mark_core.proofs.Words.{Account, IsLawful}
use Rattle.mark_core.proofs.Steps.{always, there_at}
use Rattle.mark_core.proofs.Taking.{false_is_not_true}
use Rattle.mark_core.proofs.Vectors.{account_here, does_join}
use Rattle.mark_core.proofs.Within.{is_there, idles_within, read_past, shares_within}
use Rattle.mark_core.proofs.state.State.join.Goals as goal

pub returns-then-not-is_there-clause-done : goal.returns-then-not-is_there-clause-done
returns-then-not-is_there-clause-done g c =
    λ can. false_is_not_true (c.if-not-is_there.ensures.1 (is_there _ _ can.1.0 can.1.1))

pub join-requires : goal.join-requires
join-requires g c =
    let lawful = subst IsLawful (sym c.self.view_is) c.requires.lawful in
    let there = rw (← c.self.view_is) at c.requires.there in
    let found = rw (← c.self.view_is) at (c.if-not-is_there.ensures.0 refl) in
    let mine = read_past c.self.inside.accounts.items c.args.other c.args.w _ _
    (λ e. c.if-place-w.false (sym e)) c.index_mut-2.ensures.value in
    let taken = c.replace-other.ensures.value in
    record {
      shares = rw taken (shares_within _ lawful c.args.w c.index_mut-2.result.now there mine c.args.other
          c.index_mut.result.now c.if-place-w.false found.0 c.index_mut.ensures.value);
      idles = rw taken (idles_within _ lawful c.args.w c.index_mut-2.result.now there mine c.args.other
          c.index_mut.result.now c.if-place-w.false found.0 c.index_mut.ensures.value);
    }

pub returns-clause-done : goal.returns-clause-done
returns-clause-done g c =
    let there = rw (← c.self.view_is) at c.requires.there in
    let found = rw (← c.self.view_is) at (c.if-not-is_there.ensures.0 refl) in
    let mine = read_past c.self.inside.accounts.items c.args.other c.args.w _ _
    (λ e. c.if-place-w.false (sym e)) c.index_mut-2.ensures.value in
    let taken = subst (λ (x : Account). x ≡ get_or c.self.inside.accounts.items c.args.other x)
    (sym c.replace-other.ensures.value) c.index_mut.ensures.value in
    let same = account_here c.self.inside.accounts.items c.args.other c.replace-other.result found.0 taken in
    rw (← c.self.view_is) (
    does_join _ c.args.w c.index_mut-2.result.now c.index_mut-2.result.now _ there mine mine
    c.args.other c.replace-other.result _ c.if-place-w.false found.0 taken
    (subst (λ (x : Account). 0 < x.share) (sym same) found.1) (c.replace-other.ensures.after ∙ c.gone.ensures)
    c.in_ok-join.ensures
    )

pub returns-in_err-join-clause-refused : goal.returns-in_err-join-clause-refused
returns-in_err-join-clause-refused g c =
    let found = rw (← c.self.view_is) at (c.if-not-is_there.ensures.0 refl) in
    rw (← c.self.view_is)
    (always _ c.from_residual.result
    (c.if-place-w.false, (_, there_at c.self.inside.accounts.items c.args.other found)))
