-- If no pair was opened, no buffer is kept and none is pushed on full, so the worker is still free.
use Rattle.drain.proofs.Words.{IfNone, TouchesNoFull, [], empty_pair, refl, subst}
use Rattle.mark_core.specs.declared.which.Which.TheVariants.{Empty}
use Rattle.work_pair.specs.CallEffects.{OpensNone}
use Rattle.work_pair.specs.Moves.{WasSeenEmpty}
use Rattle.drain.proofs.AtHand.{free_hand, goes_on_after, gone_free, hand_after}
use Rattle.drain.proofs.paired_worker.PairedWorker.open.Goals as goal

pub returns-in-None-clause-opened : goal.returns-in-None-clause-opened
returns-in-None-clause-opened g c =
    let old = c.args.worker in
    let new = c.open.new.worker in
    let told = subst
    (λ r. IfNone r (TouchesNoFull empty_pair old.book empty_pair new.book × WasSeenEmpty Empty old.book new.book))
    c.in-None.is c.in_ok-pair.ensures.none in
    let effect = told.0.0 in
    let hand = hand_after old new effect [] (record { going = refl; third = refl }) (free_hand c.requires.free) in (
      goes_on_after old new effect c.in_ok-pair.ensures.pool,
      gone_free hand (effect.closed told.0.1 c.requires.free.open_push),
      subst (λ r. IfNone r (OpensNone old.book new.book)) c.in-None.is c.in_ok-pair.ensures.not_found,
    )
