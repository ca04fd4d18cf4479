-- The seat's invariant holds after each step and at each end.
use Rattle.buffer_pool.proofs.Words.{Fail, IsSound, Load, LoadLink, Pop, Setup, failed, refl, subst, sym, ◌<◌, ◌∙◌, ◌≡◌}
use Rattle.buffer_pool.proofs.Loads.{is_loaded}
use Rattle.buffer_pool.proofs.Deeds.{did_three}
use Rattle.buffer_pool.proofs.Sound.{bare_rested, sound_after, sound_as, sound_linked, sound_looked, sound_popped}
use Rattle.buffer_pool.proofs.pool.try_pop.try_pop.Goals.{After-load_link-link}
use Rattle.buffer_pool.proofs.pool.try_pop.try_pop.Given as given
use Rattle.buffer_pool.proofs.pool.try_pop.try_pop.Goals as goal

pub returns-in_default-clause-sound : goal.returns-in_default-clause-sound
returns-in_default-clause-sound g c = c.load_head-head.ensures.sound

pub returns-then-tag-eq-LAST_TAG-clause-sound : goal.returns-then-tag-eq-LAST_TAG-clause-sound
returns-then-tag-eq-LAST_TAG-clause-sound g c = c.load_head-head.ensures.sound

pub load_link-link-requires-clause-sound : goal.load_link-link-requires-clause-sound
load_link-link-requires-clause-sound g c =
    (c.load_head-head.ensures.sound, bare_rested c.load_head-head.ensures.rests)

-- the seat is sound after both loads, too
linked :
    (g : given.Over) (c : After-load_link-link g)
    → IsSound c.load_link-link.new.seat.table_id c.load_link-link.new.seat.me
linked g c =
    sound_after (sound_linked c.load_head-head.ensures.sound c.args.which c.load_link-link.result)
    c.load_link-link.ensures.same.table c.load_link-link.ensures.rests

pub take_top-requires-clause-sound : goal.take_top-requires-clause-sound
take_top-requires-clause-sound g c = (
  linked g (goal.at.take_top-requires-clause-sound g c).After-load_link-link,
  bare_rested c.load_link-link.ensures.rests,
)

pub returns-in-Some-take_top-clause-sound : goal.returns-in-Some-take_top-clause-sound
returns-in-Some-take_top-clause-sound g c =
    let second = linked g (goal.at.returns-in-Some-take_top-clause-sound g c).After-load_link-link in
    let me = c.args.seat.now.me in
    let two = c.load_link-link.new.seat in
    let three = c.take_top.new.seat in
    let b = c.in-Some-take_top.buffer in
    let taken = c.in-Some-take_top.ensures.takes in
    let setup : two.me.0.book.setup ≡ me.0.book.setup = (λ k. (c.load_link-link.ensures.rests.same k).0.book.setup)
    ∙ (λ k. (c.load_head-head.ensures.rests.same k).0.book.setup)
    ∙ (is_loaded c.args.which c.load_head-head.result me.0.book).setup in
    let below = subst (λ (e : Setup). c.in-Some.index < e.buffers) (sym setup)
    (c.load_head-head.ensures.within c.in-Some.index (sym c.in-Some.ensures.same)) in
    sound_as {n = three.me}
    (sound_popped second three.me c.in-Some.index b.items.items below taken.ours.objects
    taken.slots taken.out taken.book taken.all_said) c.take_top.ensures.same.table refl taken.story

pub returns-in-None-clause-sound : goal.returns-in-None-clause-sound
returns-in-None-clause-sound g c =
    let second = linked g (goal.at.returns-in-None-clause-sound g c).After-load_link-link in
    sound_after (sound_looked second (failed c.load_link-link.new.seat.me.0.book) refl refl refl refl)
    c.take_top.ensures.same.table c.in-None.ensures.takes

pub returns-in-Some-take_top-clause-did : goal.returns-in-Some-take_top-clause-did
returns-in-Some-take_top-clause-did g c =
    let q = c.args.which in
    did_three c.args.seat.now.me.0.log c.load_head-head.new.seat.me.0.log c.load_link-link.new.seat.me.0.log
    c.take_top.new.seat.me.0.log (Load q) (LoadLink q) (Pop q)
    c.load_head-head.ensures.rests.did c.load_link-link.ensures.rests.did c.in-Some-take_top.ensures.takes.did

pub returns-in-None-clause-did : goal.returns-in-None-clause-did
returns-in-None-clause-did g c =
    let q = c.args.which in
    did_three c.args.seat.now.me.0.log c.load_head-head.new.seat.me.0.log c.load_link-link.new.seat.me.0.log
    c.take_top.new.seat.me.0.log (Load q) (LoadLink q) (Fail q)
    c.load_head-head.ensures.rests.did c.load_link-link.ensures.rests.did c.in-None.ensures.takes.did
