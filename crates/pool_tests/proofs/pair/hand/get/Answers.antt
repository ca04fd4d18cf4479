-- A pair from which no object was got has none spilled.
use Rattle.std.proofs.Common.{◌≡◌, [], Option, ℕ, subst}
use Rattle.std.specs.Prelude.{IfNone}
use Rattle.mark_core.specs.declared.which.Which.TheVariants.{Full}
use Rattle.work_pair.specs.CallEffects.{CallEffect}
use Rattle.work_pair.specs.Moves.{WasSeenEmpty}
use Rattle.work_pair.specs.PairState.{buffered_items, pair_items}
use Rattle.work_pair.proofs.Calls.{none_first}
use Rattle.pool_tests.proofs.pair.hand.get.Goals as goal

pub returns-in-Ok-None-clause-none : goal.returns-in-Ok-None-clause-none
returns-in-Ok-None-clause-none g c =
    let old = c.args.worker.now.book in
    let new = c.get.new.worker.book in
    let q = c.get.new.self in
    let told = subst (λ (r : Option ℕ). IfNone r (CallEffect c.args.pair.now old [] [] q new × (pair_items q ≡ [])
    × WasSeenEmpty Full old new)) c.in-Ok-None.field-0-is c.in-Ok-None.ensures.none in
    none_first q.spill (buffered_items q) told.1
