-- A pair without items has none spilled, and after it is disposed of the worker is free.
use Rattle.drain.proofs.Words.{[], buffered_items, inl, none_first, none_last, refl}
use Rattle.drain.proofs.AtHand.{goes_on_after, gone_free, hand_after, hand_without_spill}
use Rattle.drain.proofs.paired_worker.PairedWorker.close.Goals as goal

pub dispose-requires-clause-spill : goal.dispose-requires-clause-spill
dispose-requires-clause-spill g c =
    let p = c.args.self.pair in
    inl (none_first p.spill (buffered_items p) c.requires.none.0)

pub returns-in-Ok-clause-finished : goal.returns-in-Ok-clause-finished
returns-in-Ok-clause-finished g c = c.in-Ok.ensures.gone.0.kept.finished

pub returns-in-Ok-clause-idle : goal.returns-in-Ok-clause-idle
returns-in-Ok-clause-idle g c = c.in-Ok.ensures.gone.0.kept.idle

pub returns-in-Ok-clause-through : goal.returns-in-Ok-clause-through
returns-in-Ok-clause-through g c =
    let p = c.args.self.pair in
    let old = c.args.self.worker in
    let new = c.dispose.new.worker in
    let gone = c.in-Ok.ensures.gone in
    let none = c.requires.none in
    let was = hand_without_spill none.0 c.requires.hand in
    let hand = hand_after old new gone.0 [] (record { going = refl; third = refl }) was in (
      (goes_on_after old new gone.0 c.in-Ok.ensures.pool).came,
      gone_free hand (gone.0.closed (gone.1 (none_last p.spill (buffered_items p) none.0)) none.1),
    )
