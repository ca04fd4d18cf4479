-- The seat's invariant holds after each step and at each end.
use Rattle.buffer_pool.proofs.Words.{Did, HeldBuffer, IsPart, IsSound, Kind, Log, Option, [], ap, arith, failed, loaded}
use Rattle.buffer_pool.proofs.Words.{low_of, refl, stands_times, subst, suc, sym, times, ℕ, ◌<◌, ◌∙◌, ◌∷◌, ◌≡◌}
use Rattle.buffer_pool.proofs.Loads.{is_loaded}
use Rattle.buffer_pool.proofs.Deeds.{did_three}
use Rattle.buffer_pool.proofs.Sound.{bare_rested, sound_after, sound_as, sound_out, sound_pushed}
use Rattle.buffer_pool.proofs.pool.try_push.try_push.Goals.{After-store_link}
use Rattle.mark_core.specs.Events as events
use Rattle.buffer_pool.proofs.pool.try_push.try_push.Given as given
use Rattle.buffer_pool.proofs.pool.try_push.try_push.Goals as goal

pub head_above-requires : goal.head_above-requires
head_above-requires g c =
    let index : c.held.inside.index ≡ c.args.held.index = ap (λ (y : HeldBuffer). y.index) c.held.view_is in
    let below = c.requires.sound.within.held c.args.held.index c.requires.may.held in
    omega (arith, index, below, c.requires.sound.laid.many)

pub returns-in_default-clause-sound : goal.returns-in_default-clause-sound
returns-in_default-clause-sound g c = c.load_head-head.ensures.sound

pub store_link-requires-clause-sound : goal.store_link-requires-clause-sound
store_link-requires-clause-sound g c =
    (c.load_head-head.ensures.sound, bare_rested c.load_head-head.ensures.rests)

-- the seat is sound after the link was stored, too
stored :
    (g : given.Over) (c : After-store_link g)
    → IsSound c.store_link.new.seat.table_id c.store_link.new.seat.me
stored g c =
    let me = c.load_head-head.new.seat.me in
    let sound = c.load_head-head.ensures.sound in
    let index = c.held.inside.index in
    let low = low_of c.load_head-head.result.index in
    sound_as (sound_out sound c.store_link.new.seat.me.0.log index (record me.0 { out = suc index; out_link = low })
    refl refl refl sound.within) c.store_link.ensures.same.table c.store_link.ensures.takes_out
    c.store_link.ensures.story

pub returns-in-Ok-clause-sound : goal.returns-in-Ok-clause-sound
returns-in-Ok-clause-sound g c =
    let second = stored g (goal.at.returns-in-Ok-clause-sound g c).After-store_link in
    let book = c.args.seat.now.me.0.book in
    let h = c.args.held in
    let head = c.load_head-head.result in
    let is : c.store_link.new.seat.me.0.book ≡ loaded c.args.which head book =
    (λ k. (c.store_link.ensures.takes_out k).0.book) ∙ (λ k. (c.load_head-head.ensures.rests.same k).0.book) in
    let looked = is_loaded c.args.which head book in
    let mine = subst (λ xs. 0 < times h.index xs) (sym ((λ k. (is k).account.held) ∙ looked.held))
    (stands_times book.account.held h.index c.requires.may.held) in
    let part = subst (IsPart h.items) (sym ((λ k. (is k).account.charge) ∙ looked.charge)) c.requires.may.charged in
    sound_after (sound_pushed second c.args.which h.index h.items mine part) c.put_top.ensures.same.table
    c.in-Ok.ensures.puts

pub returns-in-Err-clause-sound : goal.returns-in-Err-clause-sound
returns-in-Err-clause-sound g c =
    let second = stored g (goal.at.returns-in-Err-clause-sound g c).After-store_link in
    let index : c.held.inside.index ≡ c.args.held.index = ap (λ (x : HeldBuffer). x.index) c.held.view_is in
    let two = c.store_link.new.seat.me.0 in
    let missed = c.in-Err.ensures.puts.1 in
    let out : two.out ≡ suc c.args.held.index = (λ k. (c.store_link.ensures.takes_out k).0.out) ∙ ap suc index in
    sound_as (sound_out second c.put_top.new.seat.me.0.log c.args.held.index (record two { book = failed two.book }) out
    refl refl (record { held = second.within.held; charge = second.within.charge })) c.put_top.ensures.same.table
    missed.0 missed.2

-- the stored link is that of the loaded head
did_put :
    (g : given.Over) (c : After-store_link g) (last : Kind) (new : Log)
    → Did c.store_link.new.seat.me.0.log (last ∷ []) new
    → (link : Option ℕ) × Did c.args.seat.now.me.0.log
    (events.Load c.args.which ∷ events.StoreLink c.args.held.index link ∷ last ∷ []) new
did_put g c last new put =
    let link = c.load_head-head.result.index in
    let index : c.held.inside.index ≡ c.args.held.index = ap (λ (x : HeldBuffer). x.index) c.held.view_is in
    let stored = subst (λ i. Did c.load_head-head.new.seat.me.0.log
    (events.StoreLink i link ∷ []) c.store_link.new.seat.me.0.log) index c.store_link.ensures.did in (
      link,
      did_three c.args.seat.now.me.0.log c.load_head-head.new.seat.me.0.log c.store_link.new.seat.me.0.log
          new (events.Load c.args.which) (events.StoreLink c.args.held.index link) last
          c.load_head-head.ensures.rests.did stored put,
    )

pub returns-in-Ok-clause-did : goal.returns-in-Ok-clause-did
returns-in-Ok-clause-did g c =
    did_put g (goal.at.returns-in-Ok-clause-did g c).After-store_link
    (events.Push c.args.which c.args.held.index c.args.held.items) c.put_top.new.seat.me.0.log c.in-Ok.ensures.puts.did

pub returns-in-Err-clause-did : goal.returns-in-Err-clause-did
returns-in-Err-clause-did g c =
    did_put g (goal.at.returns-in-Err-clause-did g c).After-store_link (events.Fail c.args.which)
    c.put_top.new.seat.me.0.log c.in-Err.ensures.puts.1.1
