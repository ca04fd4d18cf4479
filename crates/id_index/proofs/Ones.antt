-- The number of set bits below a granule.
use Rattle.id_index.proofs.Words.{and_comm, and_mask, and_or_self, ap, arith, bit_and, bit_at, bit_at-lt, bit_at_above}
use Rattle.id_index.proofs.Words.{bit_at_or, bit_at_set_other, bit_at_set_same, bit_or, cases_lt, count_ones}
use Rattle.id_index.proofs.Words.{div-eq_of_lt, inl, inr, le-max_left, le_or_l, lt_of_not-le, mod-pow-add, mod_below}
use Rattle.id_index.proofs.Words.{mul-mod_left, one_shl, ones_cat, or_shifted_r, pow-add, pow_pos, rank}
use Rattle.id_index.proofs.Words.{same_from_bits_below, shl-shr, shl_below, shr_split, subst, suc, sym, w64, zero, ℕ}
use Rattle.id_index.proofs.Words.{◌%◌, ◌*◌, ◌+◌, ◌-◌, ◌/◌, ◌<◌, ◌^◌, ◌∙◌, ◌≡◌, ◌≢◌, ◌≤◌, ◌⊎◌}

zero_or_one : (b : ℕ) → b < 2 → (b ≡ 0) ⊎ (b ≡ 1)
zero_or_one b h = grind arith

pub ones_of_bit : (b : ℕ) → b < 2 → count_ones b ≡ b
unfolding lib.Count.ones
ones_of_bit b h = elim (zero_or_one b h) [
  | inl e ↦ ap count_ones e ∙ sym e
  | inr e ↦ ap count_ones e ∙ sym e
]

-- one more granule: its bit is counted
pub rank_more : (n k : ℕ) → rank n (k + 1) ≡ bit_at n k + rank n k
rank_more n k =
    let turn : k + 1 ≡ 1 + k = omega arith in
    let e : n % 2 ^ (k + 1) ≡ bit_at n k * 2 ^ k + n % 2 ^ k =
    ap (λ (m : ℕ). n % 2 ^ m) turn ∙ mod-pow-add n 1 k in
    ap count_ones e ∙ ones_cat k (bit_at n k) (n % 2 ^ k) (mod_below n (2 ^ k) (pow_pos k))
    ∙ ap (λ (b : ℕ). b + rank n k) (ones_of_bit (bit_at n k) (bit_at-lt n k))

pub rank_none : (n : ℕ) → rank n 0 ≡ 0
unfolding lib.Count.ones
rank_none n = let e : n % 1 ≡ 0 = omega (arith, mod_below n 1 (omega arith)) in ap count_ones e

-- masking n by the granules below k keeps the bits that `rank` counts
pub rank_masked : (n k : ℕ) → k < 64 → count_ones (bit_and n (1 * 2 ^ k % 2 ^ 64 - 1)) ≡ rank n k
rank_masked n k h =
    ap (λ (m : ℕ). count_ones (bit_and n (m - 1))) (one_shl k 64 h) ∙ ap count_ones (and_mask n k)

-- the set bits are those below a granule and those from it on
pub ones_split : (n k : ℕ) → count_ones n ≡ count_ones (n / 2 ^ k) + rank n k
ones_split n k =
    ap count_ones (sym (shr_split n k)) ∙ ones_cat k (n / 2 ^ k) (n % 2 ^ k) (mod_below n (2 ^ k) (pow_pos k))

pub rank_whole : (n k : ℕ) → n < 2 ^ k → rank n k ≡ count_ones n
rank_whole n k h =
    let none : n / 2 ^ k ≡ 0 = div-eq_of_lt h in
    let all : count_ones n ≡ count_ones (n / 2 ^ k) + rank n k = ones_split n k in
    let few : count_ones (n / 2 ^ k) ≡ 0 = ap count_ones none ∙ ones_of_bit 0 (omega arith) in
    omega (arith, all, few)

-- below a set bit are fewer set bits than in all
pub rank_less_than_all : (n k : ℕ) → bit_at n k ≡ 1 → rank n k < count_ones n
rank_less_than_all n k set = omega (arith, ones_split n (k + 1), rank_more n k, set)

pub rank_grows : (n i d : ℕ) → rank n i ≤ rank n (i + d)
rank_grows n i zero = let e : i + 0 ≡ i = omega arith in subst (λ (m : ℕ). rank n i ≤ rank n m) (sym e) (omega arith)
rank_grows n i (suc d) =
    let e : i + suc d ≡ i + d + 1 = omega arith in
    subst (λ (m : ℕ). rank n i ≤ rank n m) (sym e) (omega (arith, rank_grows n i d, rank_more n (i + d)))

-- numbers with the same bits below a granule have the same rank there
pub rank_same : (a b k : ℕ) → ((i : ℕ) → i < k → bit_at a i ≡ bit_at b i) → rank a k ≡ rank b k
rank_same a b zero same = rank_none a ∙ sym (rank_none b)
rank_same a b (suc k) same =
    let e : suc k ≡ k + 1 = omega arith in
    let below : rank a k ≡ rank b k = rank_same a b k (λ i h. same i (omega (arith, h))) in
    subst (λ (m : ℕ). rank a m ≡ rank b m) (sym e)
    (omega (arith, below, rank_more a k, rank_more b k, same k (omega arith)))

-- ---- a word that is shifted up until the bit at a granule is the highest

module _ (n granule up : ℕ) (whole : granule + 1 + up ≡ 64) where
  -- only the bits up to the granule remain
  moved : n * 2 ^ up % 2 ^ 64 ≡ n % 2 ^ (granule + 1) * 2 ^ up
  moved =
      let kept : n * 2 ^ up % 2 ^ 64 ≡ n * 2 ^ up / 2 ^ up % 2 ^ (granule + 1) * 2 ^ up + n * 2 ^ up % 2 ^ up =
      subst (λ (k : ℕ). n * 2 ^ up % 2 ^ k ≡ n * 2 ^ up / 2 ^ up % 2 ^
      (granule + 1) * 2 ^ up + n * 2 ^ up % 2 ^ up) whole
      (mod-pow-add (n * 2 ^ up) (granule + 1) up) in
      kept ∙ rw (shl-shr n up) (omega (arith, mul-mod_left n (2 ^ up)))

  pub ones_moved : count_ones (n * 2 ^ up % 2 ^ 64) ≡ bit_at n granule + rank n granule
  ones_moved =
      let cat : count_ones (n % 2 ^ (granule + 1) * 2 ^ up + 0) ≡ rank n (granule + 1) + count_ones 0 =
      ones_cat up (n % 2 ^ (granule + 1)) 0 (pow_pos up) in
      let same : count_ones (n * 2 ^ up % 2 ^ 64) ≡ count_ones (n % 2 ^ (granule + 1) * 2 ^ up + 0) =
      ap count_ones (omega (arith, moved)) in
      omega (arith, same, cat, ones_of_bit 0 (omega arith), rank_more n granule)

  -- the highest bit, and what is below it
  parts : (n * 2 ^ up % 2 ^ 64 ≡ bit_at n granule * 2 ^ 63 + n % 2 ^ granule * 2 ^ up)
      × (n % 2 ^ granule * 2 ^ up < 2 ^ 63)
  parts =
      let turn : granule + 1 ≡ 1 + granule = omega arith in
      let bits : n % 2 ^ (granule + 1) ≡ bit_at n granule * 2 ^ granule + n % 2 ^ granule =
      rw turn (mod-pow-add n 1 granule) in
      let below : granule + up ≡ 63 = omega (arith, whole) in
      let high : 2 ^ granule * 2 ^ up ≡ 2 ^ 63 = rw below at (sym (pow-add 2 granule up)) in
      let low : n % 2 ^ granule * 2 ^ up < 2 ^ 63 =
      rw below at (shl_below (n % 2 ^ granule) granule up (mod_below n (2 ^ granule) (pow_pos granule))) in
      (moved ∙ rw bits (grind (arith, high)), low)

module _ (n granule : ℕ) (inside : granule < 64) where
  whole : granule + 1 + (63 - granule) ≡ 64
  whole = omega (arith, inside)

  pub ones_up_to : count_ones (n * 2 ^ (63 - granule) % 2 ^ 64) ≡ bit_at n granule + rank n granule
  ones_up_to = ones_moved n granule (63 - granule) whole

  pub top_bit : 2 ^ 63 ≤ n * 2 ^ (63 - granule) % 2 ^ 64 → bit_at n granule ≡ 1
  top_bit h = let it = parts n granule (63 - granule) whole in omega (arith, it.0, it.1, h, bit_at-lt n granule)

  pub top_bit_not : n * 2 ^ (63 - granule) % 2 ^ 64 < 2 ^ 63 → bit_at n granule ≢ 1
  top_bit_not h = λ set. let it = parts n granule (63 - granule) whole in omega (arith, it.0, h, set)

-- ---- more bits

-- c has no fewer bits set below k than a, and the same number only if the bits are the same
abbrev AreNoFewer : ℕ → ℕ → ℕ → Type 0
AreNoFewer a c k = (rank a k ≤ rank c k) × (rank a k ≡ rank c k → (p : ℕ) → p < k → bit_at a p ≡ bit_at c p)

-- this holds if each bit that is set in a is set in c
no_fewer : (a c k : ℕ) → ((p : ℕ) → bit_at a p ≤ bit_at c p) → AreNoFewer a c k
no_fewer a c zero all = (omega (arith, rank_none a, rank_none c), λ same p h. absurd (omega (arith, h)))
no_fewer a c (suc k) all =
    let below = no_fewer a c k all in
    let less : rank a (k + 1) ≤ rank c (k + 1) =
    omega (arith, below.0, rank_more a k, rank_more c k, all k) in
    let bits : rank a (k + 1) ≡ rank c (k + 1) → (p : ℕ) → p < k + 1 → bit_at a p ≡ bit_at c p =
    λ same p h. elim (cases_lt p k) [
      | inl before ↦ below.1 (omega (arith, same, below.0, rank_more a k, rank_more c k, all k)) p before
      | inr from ↦
          let last : p ≡ k = omega (arith, from, h) in
          rw last (omega (arith, same, below.0, rank_more a k, rank_more c k, all k))
    ] in
    subst (λ (m : ℕ). AreNoFewer a c m) (omega arith) (less, bits)

-- if not all bits of b are set in a, setting them sets more
pub ones_grow : (a b : ℕ) → bit_or a b < 2 ^ 64 → bit_and b a ≢ b → count_ones a < count_ones (bit_or a b)
ones_grow a b fits some =
    let c : ℕ = bit_or a b in
    let fits_a : a < 2 ^ 64 = omega (arith, fits, le_or_l a b) in
    let ranks = no_fewer a c 64 (λ p. omega (arith, bit_at_or a b p, le-max_left (bit_at a p) (bit_at b p))) in
    elim (cases_lt (count_ones a) (count_ones c)) [
      | inl more ↦ more
      | inr none ↦
          let even : rank a 64 ≡ rank c 64 =
          omega (arith, none, ranks.0, rank_whole a 64 fits_a, rank_whole c 64 fits) in
          let same : a ≡ c = same_from_bits_below 64 a c fits_a fits (ranks.1 even) in
          absurd (some (and_comm b a ∙ ap (λ (x : ℕ). bit_and x b) same ∙ and_or_self b a))
    ]

-- ---- a bit that is set above all others

abbrev with_bit : ℕ → ℕ → ℕ
with_bit n granule = bit_or n (1 * 2 ^ granule % 2 ^ 64)

module _ (n granule : ℕ) (inside : granule < 64) (above : n < 2 ^ granule) where
  pub set_here : bit_at (with_bit n granule) granule ≡ 1
  set_here = bit_at_set_same w64 n granule inside

  pub set_elsewhere : (i : ℕ) → i ≢ granule → bit_at (with_bit n granule) i ≡ bit_at n i
  set_elsewhere i other = bit_at_set_other w64 n granule inside i other

  -- bits that were set before are below the granule
  pub set_before : (i : ℕ) → bit_at n i ≡ 1 → i < granule
  set_before i set = lt_of_not-le {n = granule} {m = i} (λ le. omega (arith, bit_at_above n granule i above le, set))

  pub rank_below_set : (i : ℕ) → i ≤ granule → rank (with_bit n granule) i ≡ rank n i
  rank_below_set i le = rank_same (with_bit n granule) n i
      (λ j less. set_elsewhere j (λ e. omega (arith, e, less, le)))

  pub rank_at_set : rank (with_bit n granule) granule ≡ count_ones n
  rank_at_set = rank_below_set granule (omega arith) ∙ rank_whole n granule above

  pub ones_set : count_ones (with_bit n granule) ≡ count_ones n + 1
  ones_set =
      let shifted : 1 * 2 ^ granule % 2 ^ 64 ≡ 1 * 2 ^ granule = omega (arith, one_shl granule 64 inside) in
      let sum : with_bit n granule ≡ 1 * 2 ^ granule + n =
      ap (λ (m : ℕ). bit_or n m) shifted ∙ or_shifted_r 1 granule n above in
      omega (arith, ap count_ones sum ∙ ones_cat granule 1 n above, ones_of_bit 1 (omega arith))
