-- The step keeps the rule, and is the event `Finish`.
use Rattle.buffer_pool.proofs.Words.{buffer_reading, finish_made, mark_word, setup_of, stands_times, ◌≡◌}
use Rattle.buffer_pool.proofs.Claims.{finishes, own_word, sets_mark}
use Rattle.buffer_pool.proofs.Sound.{sound_after, sound_finished}
use Rattle.buffer_pool.proofs.pool.claim_and_finish.raise_to_finished.Given as given
use Rattle.buffer_pool.proofs.pool.claim_and_finish.raise_to_finished.Goals as goal

-- the word is that of the object by the worker's setup
own :
    (g : given.Over) (c : goal.After-fetch_or g)
    → c.mark_word.result ≡ mark_word c.args.seat.now.me.0.book.setup c.args.object
own g c =
    own_word c.requires.table c.requires.sound c.args.buffers c.args.object c.mark_word.result c.requires.buffers
    c.mark_word.ensures

pub fetch_or-requires : goal.fetch_or-requires
fetch_or-requires g c =
    let seat = c.args.seat.now in
    let sound = c.requires.sound in
    let below = sound.within.charge c.args.object c.requires.can.0 in
    sets_mark c.requires.table sound c.args.buffers c.args.object c.mark_word.result c.requires.buffers
    c.mark_word.ensures buffer_reading 3 c.mark_bits.result c.mark_bits.ensures below finish_made
    (finishes buffer_reading (setup_of c.args.words.now.key) c.args.words.now.table_id.slots seat.id seat.me sound
    c.args.object c.requires.can below)

pub returns-clause-sound : goal.returns-clause-sound
returns-clause-sound g c =
    let mine = stands_times c.args.seat.now.me.0.book.account.charge c.args.object c.requires.can.0 in
    sound_after (sound_finished c.requires.sound c.args.object mine) c.fetch_or.ensures.0
    (c.fetch_or.ensures.2 c.args.object (own g c) c.mark_bits.ensures).0

pub returns-clause-rests : goal.returns-clause-rests
returns-clause-rests g c = (c.fetch_or.ensures.2 c.args.object (own g c) c.mark_bits.ensures).0

pub returns-clause-once : goal.returns-clause-once
returns-clause-once g c = (c.fetch_or.ensures.2 c.args.object (own g c) c.mark_bits.ensures).1
