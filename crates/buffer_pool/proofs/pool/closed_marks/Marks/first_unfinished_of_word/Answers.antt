-- The lowest bit that is not set, from the object's mark on, is in the first mark that is not finished.
use Rattle.std.proofs.Common.{◌≡◌, ◌≢◌, ◌+◌, ◌-◌, ◌*◌, ◌/◌, ◌%◌, ◌^◌, ◌<◌, ◌∙◌, ℕ, ap, sym, arith, rules, w64}
use Rattle.std.proofs.Math.Nat.{div-le_self}
use Rattle.buffer_pool.proofs.Words.{bit_at-trailing_zeros, bit_at-zero, mark_at}
use Rattle.std.specs.Int.{bit_at, trailing_zeros}
use Rattle.buffer_pool.proofs.Bits.{mark_is_finished, mark_unfinished, unset_below, unset_from}
use Rattle.buffer_pool.proofs.pool.closed_marks.Marks.first_unfinished_of_word.Given as given
use Rattle.buffer_pool.proofs.pool.closed_marks.Marks.first_unfinished_of_word.Goals as goal
use Rattle.buffer_pool.proofs.pool.closed_marks.Marks.first_unfinished_of_word.Goals.{After-mark_place}

-- the bits that are searched
read :
    (g : given.Over) (c : After-mark_place g)
    → (18446744073709551615 - c.word_of.result) / 2 ^ c.mark_place.result
    ≡ unset_from c.word_of.result (c.args.object % 32)
read g c = ap (λ p. (18446744073709551615 - c.word_of.result) / 2 ^ p) c.mark_place.ensures.value

-- the lowest of them
lowest :
    (g : given.Over) (c : After-mark_place g) (u : ℕ) → u ≡ unset_from c.word_of.result (c.args.object % 32)
    → u ≢ 0 → c.word_of.result < 2 ^ 64
    → (bit_at (unset_from c.word_of.result (c.args.object % 32)) (trailing_zeros w64 u) ≡ 1)
    × ((i : ℕ) → i < trailing_zeros w64 u → bit_at (unset_from c.word_of.result (c.args.object % 32)) i ≡ 0)
lowest g c u is some fits =
    let n = 18446744073709551615 - c.word_of.result in
    let small : u < 2 ^ 64 = omega (arith, is, div-le_self n (2 ^ (2 * (c.args.object % 32)))) in
    let zeros = bit_at-trailing_zeros w64 u (omega (arith, some)) small in (
      ap (λ x. bit_at x (trailing_zeros w64 u)) (sym is) ∙ zeros.1,
      λ i below. ap (λ x. bit_at x i) (sym is) ∙ zeros.2 i below,
    )

pub returns-then-unfinished-eq0-clause-none : goal.returns-then-unfinished-eq0-clause-none
returns-then-unfinished-eq0-clause-none g c o from to inside =
    let w = c.word_of.result in
    let j : ℕ = c.args.object % 32 in
    let fits : w < 2 ^ 64 = search rules in
    let same : o / 32 ≡ c.args.object / 32 = omega (arith, from, to) in
    let none : unset_from w j ≡ 0 = sym (read g c.before) ∙ c.if-unfinished-eq0.true in
    let bit : (i : ℕ) → bit_at (unset_from w j) i ≡ 0 = λ i. ap (λ x. bit_at x i) none ∙ bit_at-zero i in
    c.word_of.ensures o same inside
    ∙ mark_is_finished w j fits (o % 32) (omega (arith, from, same)) (omega arith)
    (bit (2 * (o % 32 - j))) (bit (2 * (o % 32 - j) + 1))

pub overflow_add-result : goal.overflow_add-result
overflow_add-result g c =
    let w = c.word_of.result in
    let j : ℕ = c.args.object % 32 in
    let u : ℕ = (18446744073709551615 - w) / 2 ^ c.mark_place.result in
    let fits : w < 2 ^ 64 = search rules in
    let one = (lowest g c.before u (read g c.before) c.if-unfinished-eq0.false fits).0 in
    omega (arith, unset_below w j (trailing_zeros w64 u) one, c.ranges.object.fits)

pub returns-clause-found : goal.returns-clause-found
returns-clause-found g c =
    let w = c.word_of.result in
    let object = c.args.object in
    let j : ℕ = object % 32 in
    let u : ℕ = (18446744073709551615 - w) / 2 ^ c.mark_place.result in
    let t : ℕ = trailing_zeros w64 u in
    let fits : w < 2 ^ 64 = search rules in
    let low = lowest g c.before u (read g c.before) c.if-unfinished-eq0.false fits in
    let below = unset_below w j t low.0 in
    record {
      behind = omega arith;
      before = λ o from to inside.
          let same : o / 32 ≡ object / 32 = omega (arith, from, to, below) in
          c.word_of.ensures o same inside
          ∙ mark_is_finished w j fits (o % 32) (omega (arith, from, same)) (omega arith)
          (low.1 (2 * (o % 32 - j)) (omega (arith, from, to, same)))
          (low.1 (2 * (o % 32 - j) + 1) (omega (arith, from, to, same)));
      here = λ inside two.
          let same : (object + t / 2) / 32 ≡ object / 32 = omega (arith, below) in
          let number : j + t / 2 ≡ (object + t / 2) % 32 = omega (arith, below) in
          mark_unfinished w j fits t low.0
          (ap (mark_at w) number ∙ sym (c.word_of.ensures (object + t / 2) same inside) ∙ two);
    }
