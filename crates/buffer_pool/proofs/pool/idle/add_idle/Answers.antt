-- The step keeps the rule, and is the event.
use Rattle.buffer_pool.proofs.Words.{buffer_reading, idled, refl}
use Rattle.buffer_pool.proofs.Idles.{goes_idle}
use Rattle.buffer_pool.proofs.Sound.{sound_after, sound_looked}
use Rattle.buffer_pool.proofs.pool.idle.add_idle.Goals as goal

pub fetch_add-requires : goal.fetch_add-requires
fetch_add-requires g c = goes_idle buffer_reading c.requires.table c.requires.sound c.requires.may

pub returns-clause-sound : goal.returns-clause-sound
returns-clause-sound g c =
    sound_after (sound_looked c.requires.sound (idled c.args.seat.now.me.0.book) refl refl refl refl)
    c.fetch_add.ensures.0 c.fetch_add.ensures.2
