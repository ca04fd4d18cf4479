-- The step keeps the rule, and is the event.
use Rattle.buffer_pool.proofs.Words.{buffer_reading, refl, woken}
use Rattle.buffer_pool.proofs.Idles.{comes_back}
use Rattle.buffer_pool.proofs.Sound.{sound_after, sound_looked}
use Rattle.buffer_pool.proofs.pool.idle.take_idle.Goals as goal

pub fetch_sub-requires : goal.fetch_sub-requires
fetch_sub-requires g c = comes_back buffer_reading c.requires.table c.requires.sound c.requires.may

pub returns-clause-sound : goal.returns-clause-sound
returns-clause-sound g c =
    sound_after (sound_looked c.requires.sound (woken c.args.seat.now.me.0.book) refl refl refl refl)
    c.fetch_sub.ensures.0 c.fetch_sub.ensures.2
