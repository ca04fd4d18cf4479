-- Each word spells one head. Each head without an index, or with one of at most 65,534, is spelled by exactly one word.
use Rattle.std.specs.Prelude.{◌≡◌, ℕ, ◌+◌, ◌*◌, ◌/◌, ◌%◌, ◌<◌, Option, Some, None, refl}
use Rattle.std.proofs.Common.{zero, suc, ap, ◌∙◌, arith}
use Rattle.tagged_index.specs.Head.{Head, low_of, index_of, word_of, head_of}

pub low_of-index_of : (n : ℕ) → low_of (index_of n) ≡ n
low_of-index_of zero = refl
low_of-index_of (suc i) = omega arith

pub index_of-low_of : (o : Option ℕ) → index_of (low_of o) ≡ o
index_of-low_of None = refl
index_of-low_of (Some i) = let e : i + 1 ≡ suc i = omega arith in rw e

pub word_of-head_of : (w : ℕ) → word_of (head_of w) ≡ w
word_of-head_of w = omega (arith, low_of-index_of (w % 65536))

pub head_of-spelled : (t l : ℕ) → l < 65536 → head_of (t * 65536 + l) ≡ record { index = index_of l; tag = t }
head_of-spelled t l h =
    let low : (t * 65536 + l) % 65536 ≡ l = omega arith in
    let high : (t * 65536 + l) / 65536 ≡ t = omega arith in
    rw (low, high)

-- the word of a head without an index, or with one of at most 65,534, spells that head
pub head_of-word_of : (h : Head) → low_of h.index < 65536 → head_of (word_of h) ≡ h
head_of-word_of h small = head_of-spelled h.tag (low_of h.index) small
    ∙ ap (λ i. record h { index = i }) (index_of-low_of h.index)

-- two different heads have different words if each has no index or one of at most 65,534
abbrev pub WordsDetermineHeads : Type 0
WordsDetermineHeads = (g h : Head) → low_of g.index < 65536 → low_of h.index < 65536 → word_of g ≡ word_of h → g ≡ h

pub restored : (w : ℕ) → ◌≡◌ {A = ℕ} (word_of (head_of w)) w
restored w = word_of-head_of w
