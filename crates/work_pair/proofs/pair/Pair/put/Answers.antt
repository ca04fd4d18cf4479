-- The first buffer takes the object if it has room. If not, nothing has changed when `put_elsewhere` begins. The effect
-- of `put_elsewhere` on the buffers is one on the pair. If it finds no buffer for the object, the object goes to the
-- list, or back to the caller if an allocation fails.
use Rattle.std.proofs.Common.{◌≡◌, ℕ, true, [], ◌∷◌, ◌++◌, Err, Ok, ap, inl, refl}
use Rattle.mark_core.specs.declared.which.Which.TheVariants.{Empty}
use Rattle.work_pair.specs.CallEffects.{CallEffect, IsStopOf, PopsNoneFromFull, Puts}
use Rattle.work_pair.specs.Moves.{FoundNone}
use Rattle.work_pair.specs.PairState.{PairState, AreAlike, IsOpen}
use Rattle.work_pair.specs.declared.stop.Stop.{Stop}
use Rattle.work_pair.specs.declared.stop.Stop.TheVariants.{OutOfMemory}
use Rattle.work_pair.specs.working.Buffers.{as_pair}
use Rattle.work_pair.proofs.Locals.{put_first}
use Rattle.work_pair.proofs.Pairs.{as_before, if_spilled, if_starved, may_trade, put_from, puts, spills, starves}
use Rattle.work_pair.proofs.Pairs.{still_open, stops}
use Rattle.work_pair.proofs.Renewing.{out_alone}
use Rattle.work_pair.proofs.Spilling.{listed}
use Rattle.work_pair.proofs.Trading.{backed_less, still}
use Rattle.work_pair.proofs.pair.Pair.put.Goals as goal

pub returns-then-put_at-clause-put : goal.returns-then-put_at-clause-put
returns-then-put_at-clause-put g c =
    let i = c.self.inside in
    let b = c.args.worker.now.book in
    let put = c.if-put_at.ensures.put in
    let may = may_trade i c.self.view_is {w = c.args.worker.now} c.requires.pool c.requires.going c.requires.backed
    c.requires.busy in
    puts i c.self.view_is b (record i.buffers { first = c.put_at.new.position }) b c.requires.going c.args.object
    c.requires.backed (
      still (put_first put.1 put.2) may.backed.sized,
      may.third,
      λ pop. pop,
      inl (inl c.if-put_at.ensures.had_room, refl),
    )
    refl

pub put_elsewhere-requires-clause-may : goal.put_elsewhere-requires-clause-may
put_elsewhere-requires-clause-may g c =
    rw c.if-put_at.ensures.full
    (may_trade c.self.inside c.self.view_is c.requires.pool c.requires.going c.requires.backed c.requires.busy)

pub returns-in-Ok-true-clause-put : goal.returns-in-Ok-true-clause-put
returns-in-Ok-true-clause-put g c =
    let told = put_from c.self.inside.buffers c.if-put_at.ensures.full c.args.object c.args.worker.now.book
    (as_pair c.put_elsewhere.new.self) c.put_elsewhere.new.worker.book (Ok _) c.in-Ok-true.ensures.puts in
    puts c.self.inside c.self.view_is c.args.worker.now.book c.put_elsewhere.new.self c.put_elsewhere.new.worker.book
    c.requires.going c.args.object c.requires.backed told c.in-Ok-true.field-0-test

pub returns-in-Ok-false-clause-put : goal.returns-in-Ok-false-clause-put
returns-in-Ok-false-clause-put g c =
    let answer = put_from c.self.inside.buffers c.if-put_at.ensures.full c.args.object c.args.worker.now.book
    (as_pair c.put_elsewhere.new.self) c.put_elsewhere.new.worker.book (Ok _) c.in-Ok-false.ensures.puts in
    let i = c.self.inside in
    let b = c.args.worker.now.book in
    let after = c.put_elsewhere.new.worker.book in
    let object = c.args.object in
    let items = i.spill ++ object ∷ [] in
    if_spilled c.spill_over.result c.spill_over.new.self
    (listed (as_pair c.put_elsewhere.new.self) items i.stopped i.starved)
    (λ (w : PairState). Puts c.args.self.now b object w after) c.spill_over.ensures.spilled
    (spills i c.self.view_is b c.put_elsewhere.new.self after c.requires.going object c.requires.backed
    answer c.in-Ok-false.field-0-test items refl)

pub returns-in-Ok-false-clause-back : goal.returns-in-Ok-false-clause-back
returns-in-Ok-false-clause-back g c =
    let answer = put_from c.self.inside.buffers c.if-put_at.ensures.full c.args.object c.args.worker.now.book
    (as_pair c.put_elsewhere.new.self) c.put_elsewhere.new.worker.book (Ok _) c.in-Ok-false.ensures.puts in
    let i = c.self.inside in
    let b = c.args.worker.now.book in
    let after = c.put_elsewhere.new.worker.book in
    let told = starves i c.self.view_is b c.put_elsewhere.new.self after c.requires.going c.args.object
    c.requires.backed answer c.in-Ok-false.field-0-test i.spill refl in
    if_starved c.spill_over.result c.spill_over.new.self
    (listed (as_pair c.put_elsewhere.new.self) i.spill i.stopped true) (c.args.object, OutOfMemory)
    (λ (e : ℕ × Stop) (w : PairState). (e.0 ≡ c.args.object) × (w.spill ≡ c.args.self.now.spill)
    × PopsNoneFromFull c.args.self.now b w after) c.spill_over.ensures.starved
    (refl, ap (λ (w : PairState). w.spill) c.self.view_is, (told.0, out_alone told.0.moves told.1))

pub returns-in-Ok-false-clause-no_memory : goal.returns-in-Ok-false-clause-no_memory
returns-in-Ok-false-clause-no_memory g c =
    let answer = put_from c.self.inside.buffers c.if-put_at.ensures.full c.args.object c.args.worker.now.book
    (as_pair c.put_elsewhere.new.self) c.put_elsewhere.new.worker.book (Ok _) c.in-Ok-false.ensures.puts in
    let i = c.self.inside in
    let b = c.args.worker.now.book in
    let q = c.put_elsewhere.new.self in
    let after = c.put_elsewhere.new.worker.book in
    let items = i.spill in
    if_starved c.spill_over.result c.spill_over.new.self (listed (as_pair q) items i.stopped true)
    (c.args.object, OutOfMemory)
    (λ (e : ℕ × Stop) (w : PairState). e.1 ≡ OutOfMemory → IsOpen w × AreAlike c.args.self.now w × (w.starved ≡ true)
    × ((effect : CallEffect c.args.self.now b [] [] w after) × (effect.moves ≡ FoundNone Empty ∷ [])))
    c.spill_over.ensures.starved
    (λ starved. (
      still_open i c.self.view_is b q after c.requires.going c.args.object c.requires.backed
          answer c.in-Ok-false.field-0-test items,
      as_before i c.self.view_is b q after c.requires.going c.args.object c.requires.backed
          answer c.in-Ok-false.field-0-test items refl,
      refl,
      starves i c.self.view_is b q after c.requires.going c.args.object c.requires.backed
          answer c.in-Ok-false.field-0-test items refl,
    ))

pub returns-in-Err-clause-back : goal.returns-in-Err-clause-back
returns-in-Err-clause-back g c =
    let answer = put_from c.self.inside.buffers c.if-put_at.ensures.full c.args.object c.args.worker.now.book
    (as_pair c.put_elsewhere.new.self) c.put_elsewhere.new.worker.book (Err _) c.in-Err.ensures.puts in
    let b = c.args.worker.now.book in
    let backed = backed_less c.args.self.now (c.args.object ∷ []) b c.requires.backed in
    let told = stops c.self.inside c.self.view_is b c.put_elsewhere.new.self c.put_elsewhere.new.worker.book backed
    c.in-Err.stop refl answer in
    (refl, ap (λ (w : PairState). w.spill) c.self.view_is, told.2)

pub returns-in-Ok-false-clause-of_pool : goal.returns-in-Ok-false-clause-of_pool
returns-in-Ok-false-clause-of_pool g c =
    if_starved c.spill_over.result c.spill_over.new.self
    (listed (as_pair c.put_elsewhere.new.self) c.self.inside.spill c.self.inside.stopped true)
    (c.args.object, OutOfMemory) (λ (e : ℕ × Stop) (w : PairState). IsStopOf c.args.pool.now e.1)
    c.spill_over.ensures.starved tt
