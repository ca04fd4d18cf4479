-- The number of parts: at most `t`, and more than half of `t`.
use Rattle.std.proofs.Common.{arith, max, min, ◌%◌, ◌*◌, ◌+◌, ◌/◌, ◌<◌, ◌≤◌, ℕ}
use Rattle.std.proofs.lemmas.Grind.{div_ceil_times}
use Rattle.std.proofs.Math.Nat.{lt_of_mul-lt-mul_right}
use Rattle.std.specs.Int.{div_ceil}

-- If `t` is at most `length`, `t` parts of `length` divided by `t`, rounded up, are together shorter than twice
-- `length`.
pub rounded : (length t : ℕ) → 0 < t → t ≤ length → t * max (div_ceil length t) 1 < 2 * length
rounded length t some enough = grind (arith, div_ceil_times length t some, enough, some)

-- `count` parts that together are shorter than `t + 1` parts are at most `t`
pub few_together : (count t part : ℕ) → count * part < (t + 1) * part → count ≤ t
few_together count t part less = omega (arith, lt_of_mul-lt-mul_right part less)

-- If `t` parts of `part` items have room for `length` items, `length` divided by `part`, rounded up, is at most `t`.
pub few_parts : (length t part : ℕ) → 0 < part → length ≤ t * part → length / part + min 1 (length % part) ≤ t
few_parts length t part some room =
    few_together (length / part + min 1 (length % part)) t part
    (grind (arith, div_ceil_times length part some, room))
