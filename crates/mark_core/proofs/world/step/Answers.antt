-- A step leads from a lawful state to a lawful one. If no step was made, `CanStep` does not hold.
use Rattle.mark_core.proofs.Steps.{always, lawful_after}
use Rattle.mark_core.proofs.world.step.Goals as goal

pub invariant_of-result : goal.invariant_of-result
invariant_of-result g c = lawful_after _ _ _ c.world.invariant (rw c.if-branch.true at c.in_ok-act.ensures.done)

pub returns-then-branch-clause-done : goal.returns-then-branch-clause-done
returns-then-branch-clause-done g c =
    let after = rw c.if-branch.true at c.in_ok-act.ensures.done in
    rw (← c.world.view_is) (after.possible, after.setup, after.marking)

pub returns-else-branch-clause-done : goal.returns-else-branch-clause-done
returns-else-branch-clause-done g c = rw (← c.world.view_is) (rw c.if-branch.false at c.in_ok-act.ensures.done)

pub returns-in_err-act-clause-refused : goal.returns-in_err-act-clause-refused
returns-in_err-act-clause-refused g c =
    rw (← c.world.view_is) (always _ c.from_residual.result c.in_err-act.ensures.refused)
