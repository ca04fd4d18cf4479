-- The two bits at the position of an object in its word are its mark.
use Rattle.std.proofs.Common.{◌≡◌, ℕ, ◌*◌, ◌/◌, ◌%◌, ◌^◌, bit_and, ap, refl, ◌∙◌}
use Rattle.std.proofs.lemmas.Nat.{and_mask}
use Rattle.buffer_pool.proofs.Bits.{mark_read}
use Rattle.buffer_pool.proofs.pool.closed_marks.Marks.bits.Goals as goal

pub returns-clause-mark : goal.returns-clause-mark
returns-clause-mark g c =
    let word = c.word_of.result in
    let place : ℕ = 2 * (c.args.object % 32) in
    let bits : ℕ = bit_and (word / 2 ^ c.mark_place.result) 3 in
    let read : bits ≡ word / 2 ^ place % 4 =
    ap (λ p. bit_and (word / 2 ^ p) 3) c.mark_place.ensures.value ∙ and_mask (word / 2 ^ place) 2 in
    c.word_of.ensures c.args.object refl c.requires ∙ mark_read word (c.args.object % 32) bits read
