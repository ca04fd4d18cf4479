-- The step keeps the rule, and is the event.
use Rattle.buffer_pool.proofs.Words.{buffer_reading, idle_loaded, refl}
use Rattle.buffer_pool.proofs.Idles.{sees_idle}
use Rattle.buffer_pool.proofs.Sound.{sound_after, sound_looked}
use Rattle.buffer_pool.proofs.pool.idle.load_idle.Goals as goal

pub load-requires : goal.load-requires
load-requires g c = sees_idle buffer_reading c.requires.table c.requires.sound

pub returns-clause-sound : goal.returns-clause-sound
returns-clause-sound g c =
    sound_after
    (sound_looked c.requires.sound (idle_loaded c.load.result c.args.seat.now.me.0.book) refl refl refl refl)
    c.load.ensures.0 c.load.ensures.2.0
