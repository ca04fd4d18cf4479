-- An object that may be claimed has a mark, since the state is lawful. `fetch_max` returns this mark as it was before
-- the claim.
use Rattle.std.proofs.Common.{sym, subst, refl}
use Rattle.mark_core.proofs.Words.{Account, CanClaim, IsBusy, IsLawful}
use Rattle.mark_core.proofs.Steps.{always}
use Rattle.mark_core.proofs.Vectors.{account_here, does_claim}
use Rattle.mark_core.proofs.Within.{claim_within}
use Rattle.mark_core.proofs.state.State.claim.Goals as goal

pub returns-clause-done : goal.returns-clause-done
returns-clause-done g c =
    let lawful = subst IsLawful (sym c.self.view_is) c.requires.lawful in
    let there = rw (← c.self.view_is) at c.requires.there in
    let asked = c.index.result.now in
    let changed = c.index_mut.result.now in
    let can = c.if-not-may_claim.ensures.0 refl in
    let inside = claim_within _ lawful c.args.w asked there c.index.ensures c.args.object can.0 in
    rw (← c.self.view_is)
    (does_claim _ c.args.w asked changed _ there c.index.ensures c.index_mut.ensures.value c.args.object
    c.fetch_max-found.result _ inside can c.fetch_max-found.ensures.found c.fetch_max-found.ensures.raised
    c.in_ok-claim.ensures)

pub returns-in_err-claim-clause-refused : goal.returns-in_err-claim-clause-refused
returns-in_err-claim-clause-refused g c =
    let there = rw (← c.self.view_is) at c.requires.there in
    let same = account_here _ c.args.w c.index.result.now there c.index.ensures in
    rw (← c.self.view_is) (always _ c.from_residual.result
    (subst (λ (x : Account). CanClaim c.self.inside.setup c.args.object x × IsBusy x) same
    (c.if-not-may_claim.ensures.0 refl)))
