-- A step requires an account of that number, and a split requires a free number. The contract of each kind of event
-- requires the rest.
use Rattle.std.proofs.Common.{true, refl}
use Rattle.mark_core.specs.Events.{Claim, Finish, Split, Join, Pop}
use Rattle.mark_core.proofs.Steps.{no_account, no_number, steps_of, steps_ok, steps_refused}
use Rattle.mark_core.proofs.Taking.{false_is_not_true}
use Rattle.mark_core.proofs.state.State.act.Goals as goal

pub returns-then-not-is_there-clause-done : goal.returns-then-not-is_there-clause-done
returns-then-not-is_there-clause-done g c =
    no_account c.args.self.now c.args.event.worker _ (λ there. false_is_not_true (c.if-not-is_there.ensures.1 there))

pub returns-then-not-has_number-clause-done : goal.returns-then-not-has_number-clause-done
returns-then-not-has_number-clause-done g c =
    rw c.in-Split.is (no_number c.args.self.now c.args.event.worker (Split c.in-Split.units)
    (λ number. false_is_not_true (c.if-not-has_number.ensures.1 number)))

pub returns-else-not-has_number-clause-done : goal.returns-else-not-has_number-clause-done
returns-else-not-has_number-clause-done g c =
    rw c.in-Split.is (steps_ok _ _ _ _ c.split.result
    (c.if-not-is_there.ensures.0 refl) (c.if-not-has_number.ensures.0 refl) c.split.ensures.done)

pub returns-in-Claim-clause-done : goal.returns-in-Claim-clause-done
returns-in-Claim-clause-done g c =
    rw c.in-Claim.is (steps_ok _ _ _ _ c.claim.result (c.if-not-is_there.ensures.0 refl) tt c.claim.ensures.done)

pub returns-in-Finish-clause-done : goal.returns-in-Finish-clause-done
returns-in-Finish-clause-done g c =
    rw c.in-Finish.is (steps_ok _ _ _ _ c.finish.result (c.if-not-is_there.ensures.0 refl) tt c.finish.ensures.done)

pub returns-in-Join-clause-done : goal.returns-in-Join-clause-done
returns-in-Join-clause-done g c =
    rw c.in-Join.is (steps_ok _ _ _ _ c.join.result (c.if-not-is_there.ensures.0 refl) tt c.join.ensures.done)

pub returns-in-Pop-clause-done : goal.returns-in-Pop-clause-done
returns-in-Pop-clause-done g c =
    rw c.in-Pop.is (steps_ok _ _ _ _ c.pop.result (c.if-not-is_there.ensures.0 refl) tt c.pop.ensures.done)

pub returns-in-Load-clause-done : goal.returns-in-Load-clause-done
returns-in-Load-clause-done g c =
    rw c.in-Load.is (steps_of _ _ _ _ true (c.if-not-is_there.ensures.0 refl) tt c.load.ensures)

pub returns-in-LoadLink-clause-done : goal.returns-in-LoadLink-clause-done
returns-in-LoadLink-clause-done g c =
    rw c.in-LoadLink.is (steps_of _ _ _ _ c.load_link.result (c.if-not-is_there.ensures.0 refl) tt c.load_link.ensures)

pub returns-in-StoreLink-clause-done : goal.returns-in-StoreLink-clause-done
returns-in-StoreLink-clause-done g c =
    rw c.in-StoreLink.is (steps_of _ _ _ _ c.store_link.result
    (c.if-not-is_there.ensures.0 refl) tt c.store_link.ensures)

pub returns-in-Push-clause-done : goal.returns-in-Push-clause-done
returns-in-Push-clause-done g c =
    rw c.in-Push.is (steps_of _ _ _ _ c.push.result
    (c.if-not-is_there.ensures.0 refl) tt (rw c.of.ensures at c.push.ensures))

pub returns-in-Fail-clause-done : goal.returns-in-Fail-clause-done
returns-in-Fail-clause-done g c =
    rw c.in-Fail.is (steps_of _ _ _ _ c.fail.result (c.if-not-is_there.ensures.0 refl) tt c.fail.ensures)

pub returns-in-Claim-clause-refused : goal.returns-in-Claim-clause-refused
returns-in-Claim-clause-refused g c =
    rw c.in-Claim.is (steps_refused c.args.self.now _ (Claim c.in-Claim.object) c.claim.result
    (c.if-not-is_there.ensures.0 refl) tt c.claim.ensures.refused)

pub returns-in-Finish-clause-refused : goal.returns-in-Finish-clause-refused
returns-in-Finish-clause-refused g c =
    rw c.in-Finish.is (steps_refused c.args.self.now _ (Finish c.in-Finish.object) c.finish.result
    (c.if-not-is_there.ensures.0 refl) tt c.finish.ensures.refused)

pub returns-in-Join-clause-refused : goal.returns-in-Join-clause-refused
returns-in-Join-clause-refused g c =
    rw c.in-Join.is (steps_refused c.args.self.now _ (Join c.in-Join.other) c.join.result
    (c.if-not-is_there.ensures.0 refl) tt c.join.ensures.refused)

pub returns-in-Pop-clause-refused : goal.returns-in-Pop-clause-refused
returns-in-Pop-clause-refused g c =
    rw c.in-Pop.is (steps_refused c.args.self.now _ (Pop c.in-Pop.which) c.pop.result
    (c.if-not-is_there.ensures.0 refl) tt c.pop.ensures.refused)

pub returns-else-not-has_number-clause-refused : goal.returns-else-not-has_number-clause-refused
returns-else-not-has_number-clause-refused g c =
    rw c.in-Split.is (steps_refused c.args.self.now _ (Split c.in-Split.units) c.split.result
    (c.if-not-is_there.ensures.0 refl) (c.if-not-has_number.ensures.0 refl) c.split.ensures.refused)

pub returns-in-IdleUp-clause-done : goal.returns-in-IdleUp-clause-done
returns-in-IdleUp-clause-done g c =
    rw c.in-IdleUp.is (steps_of _ _ _ _ c.idle_up.result (c.if-not-is_there.ensures.0 refl) tt c.idle_up.ensures)

pub returns-in-IdleDown-clause-done : goal.returns-in-IdleDown-clause-done
returns-in-IdleDown-clause-done g c =
    rw c.in-IdleDown.is (steps_of _ _ _ _ c.idle_down.result (c.if-not-is_there.ensures.0 refl) tt c.idle_down.ensures)

pub returns-in-LoadIdle-clause-done : goal.returns-in-LoadIdle-clause-done
returns-in-LoadIdle-clause-done g c =
    rw c.in-LoadIdle.is (steps_of _ _ _ _ true (c.if-not-is_there.ensures.0 refl) tt c.load_idle.ensures)
