-- The marks in a word, of two bits each, and what setting the bits of one changes.
use Rattle.std.proofs.Common.{◌≡◌, ◌≢◌, ◌⊎◌, ◌↔◌, ℕ, suc, ◌+◌, ◌-◌, ◌*◌, ◌/◌, ◌%◌, ◌^◌, ◌<◌, ◌≤◌, ◌==◌, max, IsTrue}
use Rattle.std.proofs.Common.{if◌then◌else◌, bit_and, bit_or, ap, sym, ◌∙◌, inl, inr, ⊎_elim, eq-eqb, eqb-true, lt-ltb}
use Rattle.std.proofs.Common.{le-ltb, pow_pos, pow_mono, pow-add, shr-shr, mod-eq_of_lt, mul-le-mul_right, suc-mul, w64}
use Rattle.std.proofs.Common.{arith}
use Rattle.buffer_pool.proofs.Words.{cases_lt, bit_at_or, bit_at_cat_low, bit_at_cat_high, bit_at_above, bit_at-zero}
use Rattle.buffer_pool.proofs.Words.{bit_at-lt, bit_at_not, shr_and_one, ℕ_discrete, cut_marks, mark_of, mark_at}
use Rattle.std.specs.Int.{bit_at, bit_not}

no_more : (x : ℕ) → x ≡ x + 0
no_more x = omega arith

-- c * 2 ^ k has no bit set below place k, and has the bits of c from there on
moved_below : (c k i : ℕ) → i < k → bit_at (c * 2 ^ k) i ≡ 0
moved_below c k i low = ap (λ x. bit_at x i) (no_more (c * 2 ^ k)) ∙ bit_at_cat_low c k 0 i low ∙ bit_at-zero i

moved_up : (c k i : ℕ) → k ≤ i → bit_at (c * 2 ^ k) i ≡ bit_at c (i - k)
moved_up c k i from = ap (λ x. bit_at x i) (no_more (c * 2 ^ k)) ∙ bit_at_cat_high c k 0 i (pow_pos k) from

-- the two bits of mark j are the two low bits of c
moved_low : (c j : ℕ) → bit_at (c * 2 ^ (2 * j)) (2 * j) ≡ bit_at c 0
moved_low c j =
    let same : 2 * j - 2 * j ≡ 0 = omega arith in
    moved_up c (2 * j) (2 * j) (omega arith) ∙ ap (bit_at c) same

moved_high : (c j : ℕ) → bit_at (c * 2 ^ (2 * j)) (2 * j + 1) ≡ bit_at c 1
moved_high c j =
    let same : 2 * j + 1 - 2 * j ≡ 1 = omega arith in
    moved_up c (2 * j) (2 * j + 1) (omega arith) ∙ ap (bit_at c) same

-- a bit outside mark j, such as each bit of another mark
abbrev Beside : ℕ → ℕ → Type 0
Beside j k = (k < 2 * j) ⊎ (2 * j + 2 ≤ k)

beside : (i j k : ℕ) → i ≢ j → k / 2 ≡ i → Beside j k
beside i j k other half =
    ⊎_elim (λ l. inl (omega (arith, l, half))) (λ l. inr (omega (arith, l, other, half))) (cases_lt i j)

moved_beside : (c j k : ℕ) → c < 4 → Beside j k → bit_at (c * 2 ^ (2 * j)) k ≡ 0
moved_beside c j k small (inl low) = moved_below c (2 * j) k low
moved_beside c j k small (inr high) =
    moved_up c (2 * j) k (omega (arith, high)) ∙ bit_at_above c 2 (k - 2 * j) small (omega (arith, high))

-- setting the bits of c at mark j raises that mark and leaves the bits outside
module _ (n c j : ℕ) where
  set_beside : (k : ℕ) → c < 4 → Beside j k → bit_at (bit_or n (c * 2 ^ (2 * j))) k ≡ bit_at n k
  set_beside k small apart = omega (arith, bit_at_or n (c * 2 ^ (2 * j)) k, moved_beside c j k small apart)

  set_low : bit_at (bit_or n (c * 2 ^ (2 * j))) (2 * j) ≡ max (bit_at n (2 * j)) (bit_at c 0)
  set_low = bit_at_or n (c * 2 ^ (2 * j)) (2 * j) ∙ ap (max (bit_at n (2 * j))) (moved_low c j)

  set_high : bit_at (bit_or n (c * 2 ^ (2 * j))) (2 * j + 1) ≡ max (bit_at n (2 * j + 1)) (bit_at c 1)
  set_high = bit_at_or n (c * 2 ^ (2 * j)) (2 * j + 1) ∙ ap (max (bit_at n (2 * j + 1))) (moved_high c j)

  -- another mark is as it was
  pub mark_beside : (i : ℕ) → c < 4 → i ≢ j → mark_at (bit_or n (c * 2 ^ (2 * j))) i ≡ mark_at n i
  mark_beside i small other =
      λ t. mark_of (set_beside (2 * i) small (beside i j (2 * i) other (omega arith)) t)
      (set_beside (2 * i + 1) small (beside i j (2 * i + 1) other (omega arith)) t)

-- setting the low bit is a claim, setting both is a finish
pub mark_claimed : (n j : ℕ) → mark_at n j ≤ 2 → mark_at (bit_or n (1 * 2 ^ (2 * j))) j ≡ max (mark_at n j) 1
mark_claimed n j known = omega (arith, known, set_low n 1 j, set_high n 1 j)

pub mark_finished : (n j : ℕ) → mark_at (bit_or n (3 * 2 ^ (2 * j))) j ≡ 2
mark_finished n j = omega (arith, set_low n 3 j, set_high n 3 j)

-- if the lowest bit of c is set, c at mark i equals c at mark j only if i is j
pub one_mark : (c i j : ℕ) → c < 4 → bit_at c 0 ≡ 1 → c * 2 ^ (2 * i) ≡ c * 2 ^ (2 * j) → i ≡ j
one_mark c i j small odd same = go (ℕ_discrete i j)
  where
    go : Dec (i ≡ j) → i ≡ j
    go (yes e) = e
    go (no n) =
        let here : bit_at (c * 2 ^ (2 * i)) (2 * i) ≡ 1 = moved_low c i ∙ odd in
        let there = moved_beside c j (2 * i) small (beside i j (2 * i) n (omega arith)) in
        absurd (omega (arith, here, ap (λ x. bit_at x (2 * i)) same, there))

-- the low bit of a mark of at most 2 is 0 exactly if the mark is white
pub low_tells :
    (n j place : ℕ) → place ≡ 2 * j → mark_at n j ≤ 2
    → IsTrue (bit_and (n / 2 ^ place) 1 == 0) ↔ (mark_at n j ≡ 0)
low_tells n j place is known = (
  (λ h. omega (arith, known, low, eqb-true (bit_and (n / 2 ^ place) 1) 0 h)),
  (λ h. eq-eqb (bit_and (n / 2 ^ place) 1) 0 (omega (arith, low, h))),
)
  where
    low : bit_and (n / 2 ^ place) 1 ≡ bit_at n (2 * j)
    low = ap (λ p. bit_and (n / 2 ^ p) 1) is ∙ shr_and_one n (2 * j)

-- two bits at a mark fit into a word of 64 bits
pub bits_fit : (c j : ℕ) → c < 4 → j < 32 → c * 2 ^ (2 * j) % 2 ^ 64 ≡ c * 2 ^ (2 * j)
bits_fit c j small low =
    mod-eq_of_lt
    (less (c * 2 ^ (2 * j)) (2 ^ (2 * j)) (2 ^ (2 + 2 * j)) more (pow-add 2 2 (2 * j)) (pow_pos (2 * j)) top)
  where
    more : c * 2 ^ (2 * j) + 2 ^ (2 * j) ≤ 4 * 2 ^ (2 * j)
    more =
        let all : suc c * 2 ^ (2 * j) ≤ 4 * 2 ^ (2 * j) = mul-le-mul_right (2 ^ (2 * j)) small in
        omega (arith, all, suc-mul c (2 ^ (2 * j)))

    top : 2 ^ (2 + 2 * j) ≤ 2 ^ 64
    top = pow_mono {i = 2 + 2 * j} {j = 64} (omega (arith, low))

    less : (x y z : ℕ) → x + y ≤ 4 * y → z ≡ 4 * y → 0 < y → z ≤ 2 ^ 64 → x < 2 ^ 64
    less x y z a b d e = omega (arith, a, b, d, e)

-- the two bits read at a mark spell it
pub mark_read : (n j bits : ℕ) → bits ≡ n / 2 ^ (2 * j) % 4 → mark_at n j ≡ mark_of (bits % 2) (bits / 2)
mark_read n j bits read = λ t. mark_of (low t) (high t)
  where
    low : bit_at n (2 * j) ≡ bits % 2
    low = omega (arith, read)

    up : bit_at n (2 * j + 1) ≡ n / 2 ^ (2 * j) / 2 % 2
    up = ap (λ x. x % 2) (sym (shr-shr n (2 * j) 1))

    high : bit_at n (2 * j + 1) ≡ bits / 2
    high = omega (arith, read, up)

-- a cut leaves the mark of an object, and only an object is marked after it
pub cut_object : (objects : ℕ) (f : ℕ → ℕ) (o : ℕ) → o < objects → cut_marks objects f o ≡ f o
cut_object objects f o below = ap (λ t. if t then f o else 0) (lt-ltb o objects below)

pub cut_past : (objects : ℕ) (f : ℕ → ℕ) (o : ℕ) → objects ≤ o → cut_marks objects f o ≡ 0
cut_past objects f o past = ap (λ t. if t then f o else 0) (le-ltb o objects past)

pub marked_object : (objects : ℕ) (f : ℕ → ℕ) (o : ℕ) → 1 ≤ cut_marks objects f o → o < objects
marked_object objects f o some =
    ⊎_elim (λ below. below) (λ past. absurd (omega (arith, some, cut_past objects f o past))) (cases_lt o objects)

-- all marks of the word 0 are white
pub white_mark : (j : ℕ) → mark_at 0 j ≡ 0
white_mark j = omega (arith, bit_at-zero (2 * j), bit_at-zero (2 * j + 1))

pub cut_white : (objects : ℕ) (f : ℕ → ℕ) (o : ℕ) → f o ≡ 0 → cut_marks objects f o ≡ 0
cut_white objects f o h =
    ⊎_elim (λ below. cut_object objects f o below ∙ h) (cut_past objects f o) (cases_lt o objects)

-- the bits that are not set in a word, from mark j on
abbrev pub unset_from : ℕ → ℕ → ℕ
unset_from w j = bit_not w64 w / 2 ^ (2 * j)

module _ (w j : ℕ) where
  unset_bit : (i : ℕ) → bit_at (unset_from w j) i ≡ bit_at (bit_not w64 w) (2 * j + i)
  unset_bit i = ap (λ x. x % 2) (shr-shr (bit_not w64 w) (2 * j) i)

  pub unset_below : (i : ℕ) → bit_at (unset_from w j) i ≡ 1 → 2 * j + i < 64
  unset_below i is = ⊎_elim
      (λ below. below)
      (λ past.
      let none = bit_at_above (bit_not w64 w) 64 (2 * j + i) (omega arith) past in
      absurd (omega (arith, is, unset_bit i, none)))
      (cases_lt (2 * j + i) 64)

module _ (w j : ℕ) (fits : w < 2 ^ 64) where
  unset_in_word : (i : ℕ) → 2 * j + i < 64 → bit_at (unset_from w j) i ≡ 1 - bit_at w (2 * j + i)
  unset_in_word i below = unset_bit w j i ∙ bit_at_not w64 w (2 * j + i) fits below

  -- a mark is that of a finished object if both its bits are set, and is not if one of them is not set
  pub mark_is_finished :
      (k : ℕ) → j ≤ k → k < 32 → bit_at (unset_from w j) (2 * (k - j)) ≡ 0
      → bit_at (unset_from w j) (2 * (k - j) + 1) ≡ 0 → mark_at w k ≡ 2
  mark_is_finished k from below low high =
      let a : 2 * j + 2 * (k - j) ≡ 2 * k = omega (arith, from) in
      let b : 2 * j + (2 * (k - j) + 1) ≡ 2 * k + 1 = omega (arith, from) in
      let unset_low = unset_in_word (2 * (k - j)) (omega (arith, from, below)) in
      let unset_high = unset_in_word (2 * (k - j) + 1) (omega (arith, from, below)) in
      let one_low : bit_at w (2 * k) ≡ 1 = omega (arith, low, unset_low, ap (bit_at w) a, bit_at-lt w (2 * k)) in
      let one_high : bit_at w (2 * k + 1) ≡ 1 =
      omega (arith, high, unset_high, ap (bit_at w) b, bit_at-lt w (2 * k + 1)) in
      omega (arith, one_low, one_high)

  pub mark_unfinished : (i : ℕ) → bit_at (unset_from w j) i ≡ 1 → mark_at w (j + i / 2) ≢ 2
  mark_unfinished i is two = ⊎_elim even odd (cases_lt (i % 2) 1)
    where
      k : ℕ
      k = j + i / 2

      none : bit_at w (2 * j + i) ≡ 0
      none = omega (arith, is, unset_in_word i (unset_below w j i is))

      even : i % 2 < 1 → ⊥
      even h =
          let e : 2 * j + i ≡ 2 * k = omega (arith, h) in
          omega (arith, two, none, ap (bit_at w) e, bit_at-lt w (2 * k + 1))

      odd : 1 ≤ i % 2 → ⊥
      odd h =
          let e : 2 * j + i ≡ 2 * k + 1 = omega (arith, h) in
          omega (arith, two, none, ap (bit_at w) e, bit_at-lt w (2 * k))
