-- An object of the charge has a mark, since the state is lawful. Memory runs out only if the object may be finished.
use Rattle.std.proofs.Common.{sym, subst, refl, arith}
use Rattle.mark_core.proofs.Words.{CanFinish, IsLawful}
use Rattle.mark_core.proofs.Steps.{always}
use Rattle.mark_core.proofs.Taking.{false_is_not_true}
use Rattle.mark_core.proofs.Vectors.{account_here, does_finish}
use Rattle.mark_core.proofs.Within.{charge_within}
use Rattle.mark_core.proofs.state.State.finish.Goals as goal

pub returns-then-not-may_finish-clause-done : goal.returns-then-not-may_finish-clause-done
returns-then-not-may_finish-clause-done g c =
    let there = rw (← c.self.view_is) at c.requires.there in
    let same = account_here _ c.args.w c.index.result.now there c.index.ensures in
    rw (← c.self.view_is) (λ can. false_is_not_true
    (c.if-not-may_finish.ensures.1 (subst (CanFinish c.self.inside.setup c.args.object) (sym same) can)))

pub index_mut-requires-2 : goal.index_mut-requires-2
index_mut-requires-2 g c =
    let lawful = subst IsLawful (sym c.self.view_is) c.requires.lawful in
    let there = rw (← c.self.view_is) at c.requires.there in
    let can = c.if-not-may_finish.ensures.0 refl in
    omega (arith, charge_within _ lawful c.args.w c.index.result.now there c.index.ensures c.args.object can.0)

pub returns-clause-done : goal.returns-clause-done
returns-clause-done g c =
    let lawful = subst IsLawful (sym c.self.view_is) c.requires.lawful in
    let there = rw (← c.self.view_is) at c.requires.there in
    let asked = c.index.result.now in
    let changed = c.index_mut.result.now in
    let can = c.if-not-may_finish.ensures.0 refl in
    let inside = charge_within _ lawful c.args.w asked there c.index.ensures c.args.object can.0 in
    rw (← c.self.view_is) (does_finish _ c.args.w asked changed _ there c.index.ensures c.index_mut.ensures.value
    c.args.object inside can c.in_ok-finish.ensures)

pub returns-in_err-finish-clause-refused : goal.returns-in_err-finish-clause-refused
returns-in_err-finish-clause-refused g c =
    let there = rw (← c.self.view_is) at c.requires.there in
    let same = account_here _ c.args.w c.index.result.now there c.index.ensures in
    rw (← c.self.view_is) (always _ c.from_residual.result
    (subst (CanFinish c.self.inside.setup c.args.object) same (c.if-not-may_finish.ensures.0 refl)))
