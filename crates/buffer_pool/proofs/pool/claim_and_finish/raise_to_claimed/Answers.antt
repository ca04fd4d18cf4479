-- The step keeps the rule, and is the event `Claim`.
use Rattle.buffer_pool.proofs.Words.{buffer_reading, claim_made, mark_word, mark_at, setup_of, ℕ, ◌%◌, ◌≡◌}
use Rattle.buffer_pool.proofs.Bits.{low_tells}
use Rattle.buffer_pool.proofs.Claims.{claims, claimable_within, own_word, sets_mark}
use Rattle.buffer_pool.proofs.Sound.{sound_after, sound_claimed}
use Rattle.buffer_pool.proofs.pool.claim_and_finish.raise_to_claimed.Given as given
use Rattle.buffer_pool.proofs.pool.claim_and_finish.raise_to_claimed.Goals as goal

-- the word is that of the object by the worker's setup
own :
    (g : given.Over) (c : goal.After-mark_place g)
    → c.mark_word.result ≡ mark_word c.args.seat.now.me.0.book.setup c.args.object
own g c =
    own_word c.requires.table c.requires.sound c.args.buffers c.args.object c.mark_word.result c.requires.buffers
    c.mark_word.ensures

pub fetch_or-word-requires : goal.fetch_or-word-requires
fetch_or-word-requires g c =
    let seat = c.args.seat.now in
    let sound = c.requires.sound in
    let book = seat.me.0.book in
    let below = claimable_within seat.table_id book.setup book.account c.args.object sound.laid c.requires.can in
    sets_mark c.requires.table sound c.args.buffers c.args.object c.mark_word.result c.requires.buffers
    c.mark_word.ensures buffer_reading 1 c.mark_bits.result c.mark_bits.ensures below claim_made
    (claims buffer_reading (setup_of c.args.words.now.key) c.args.words.now.table_id.slots seat.id seat.me sound
    c.args.object c.requires.can c.requires.busy below)

pub returns-clause-sound : goal.returns-clause-sound
returns-clause-sound g c =
    let t = c.args.seat.now.table_id in
    let me = c.args.seat.now.me in
    let below =
    claimable_within t me.0.book.setup me.0.book.account c.args.object c.requires.sound.laid c.requires.can in
    let found : ℕ = mark_at c.fetch_or-word.result (c.args.object % 32) in
    sound_after (sound_claimed c.requires.sound c.args.object found below) c.fetch_or-word.ensures.0
    (c.fetch_or-word.ensures.2 c.args.object (own g c) c.mark_bits.ensures).0

pub returns-clause-rests : goal.returns-clause-rests
returns-clause-rests g c =
    let number : ℕ = c.args.object % 32 in
    let made = c.fetch_or-word.ensures.2 c.args.object (own g c) c.mark_bits.ensures in (
      mark_at c.fetch_or-word.result number,
      made.0,
      low_tells c.fetch_or-word.result number c.mark_place.result c.mark_place.ensures.value made.1,
    )
