-- Lists of bytes, and the bytes of a number of any width.
use Rattle.hprof_grammar.proofs.Words.{List, [], ap, append-nil, arith, big_bytes, big_from-cons, big_from-lt}
use Rattle.hprof_grammar.proofs.Words.{big_from-take, big_number, big_number-reads_back, byte_at, digits_div, drop}
use Rattle.hprof_grammar.proofs.Words.{drop-append_seam, drop-drop, get_or-append-add, get_or-drop, length}
use Rattle.hprof_grammar.proofs.Words.{length-bytes_high_first, length-drop, length-take-le, refl, replicate}
use Rattle.hprof_grammar.proofs.Words.{slice_index, suc, sym, take, take-append-drop, take-append_seam, w8, zero, ℕ}
use Rattle.hprof_grammar.proofs.Words.{◌*◌, ◌++◌, ◌+◌, ◌/◌, ◌<◌, ◌^◌, ◌∙◌, ◌∷◌, ◌≡◌, ◌≤◌}
use Rattle.std.proofs.Common.{Fits}

-- each number in `bytes` is a byte
abbrev pub IsBytes : List ℕ → Type 0
IsBytes bytes = (k : ℕ) → slice_index bytes k < 256

-- numbers that fit 8 bits are bytes
pub in_bytes : (bytes : List ℕ) → ((k : ℕ) → Fits w8 (slice_index bytes k)) → IsBytes bytes
in_bytes bytes h k = omega (arith, h k)

pub bytes-tail : (a : ℕ) (bytes : List ℕ) → IsBytes (a ∷ bytes) → IsBytes bytes
bytes-tail a bytes h k = h (suc k)

pub bytes-drop : (n : ℕ) (bytes : List ℕ) → IsBytes bytes → IsBytes (drop n bytes)
bytes-drop n bytes h k = rw (get_or-drop n bytes k 0) (h (n + k))

pub bytes-behind : (front back : List ℕ) → IsBytes (front ++ back) → IsBytes back
bytes-behind front back h k = rw get_or-append-add at (h (length front + k))

-- the first of two parts of a list of bytes is bytes
pub bytes-front : (front back : List ℕ) → IsBytes (front ++ back) → IsBytes front
bytes-front [] back h k = omega arith
bytes-front (b ∷ front) back h zero = h 0
bytes-front (b ∷ front) back h (suc k) = bytes-front front back (bytes-tail b (front ++ back) h) k

bytes-take : (n : ℕ) (bytes : List ℕ) → IsBytes bytes → IsBytes (take n bytes)
bytes-take zero bytes h k = omega arith
bytes-take (suc n) [] h k = omega arith
bytes-take (suc n) (b ∷ bytes) h zero = h 0
bytes-take (suc n) (b ∷ bytes) h (suc k) = bytes-take n bytes (bytes-tail b bytes h) k

pub bytes-join : (xs ys : List ℕ) → IsBytes xs → IsBytes ys → IsBytes (xs ++ ys)
bytes-join [] ys h k i = k i
bytes-join (x ∷ xs) ys h k zero = h 0
bytes-join (x ∷ xs) ys h k (suc i) = bytes-join xs ys (bytes-tail x xs h) k i

pub zeros-bytes : (n : ℕ) → IsBytes (replicate n 0)
zeros-bytes zero k = omega arith
zeros-bytes (suc n) zero = omega arith
zeros-bytes (suc n) (suc k) = zeros-bytes n k

-- `byte_at` returns a byte
byte_at-lt : (i x : ℕ) → byte_at i x < 256
byte_at-lt zero x = omega arith
byte_at-lt (suc i) x = omega arith

big_bytes-bytes : (n x : ℕ) → IsBytes (big_bytes n x)
big_bytes-bytes zero x k = omega arith
big_bytes-bytes (suc n) x zero = byte_at-lt n x
big_bytes-bytes (suc n) x (suc k) = big_bytes-bytes n x k

-- a multiple of c and a number below c are known from their sum
same_digits : (a b c r s : ℕ) → r < c → s < c → a * c + r ≡ b * c + s → (a ≡ b) × (r ≡ s)
same_digits a b c r s h k e =
    let top : a ≡ b = sym (digits_div a h) ∙ ap (λ (x : ℕ). x / c) e ∙ digits_div b k in
    let low : b * c + r ≡ b * c + s = rw top at e in
    (top, omega arith)

number-cons : (n a : ℕ) (bytes : List ℕ) → big_number (suc n) (a ∷ bytes) ≡ a * 256 ^ n + big_number n bytes
number-cons n a bytes = ap (λ (r : ℕ). a * 256 ^ n + r) (big_from-cons 0 n a bytes)

-- lists of n bytes that make the same number are equal
same_bytes : (n : ℕ) (xs ys : List ℕ) → IsBytes xs → IsBytes ys → length xs ≡ n → length ys ≡ n
    → big_number n xs ≡ big_number n ys → xs ≡ ys
same_bytes zero [] [] h k p q e = refl
same_bytes (suc n) (x ∷ xs) (y ∷ ys) h k p q e =
    let low = bytes-tail x xs h in
    let low_too = bytes-tail y ys k in
    let d = same_digits x y (256 ^ n) (big_number n xs) (big_number n ys) (big_from-lt 0 n xs low)
    (big_from-lt 0 n ys low_too) (sym (number-cons n x xs) ∙ e ∙ number-cons n y ys) in
    rw (d.0, same_bytes n xs ys low low_too (omega arith) (omega arith) d.1) refl
same_bytes n xs ys h k p q e = absurd (omega arith)

-- n bytes make a number below 256 ^ n
pub number-lt : (n : ℕ) (bytes : List ℕ) → IsBytes bytes → big_number n bytes < 256 ^ n
number-lt n bytes h = big_from-lt 0 n bytes h

-- the number in the first n bytes is spelled by those bytes
pub bytes_of_number : (n : ℕ) (bytes : List ℕ) → IsBytes bytes → n ≤ length bytes
    → big_bytes n (big_number n bytes) ≡ take n bytes
bytes_of_number n bytes h fits =
    let value = big_number n bytes in
    let read : big_number n (big_bytes n value) ≡ value = ap (big_number n) (sym (append-nil (big_bytes n value)))
    ∙ big_number-reads_back n value [] (number-lt n bytes h) in
    same_bytes n (big_bytes n value) (take n bytes) (big_bytes-bytes n value) (bytes-take n bytes h)
    (length-bytes_high_first n value) (length-take-le n bytes fits)
    (read ∙ sym (big_from-take 0 n n bytes (omega arith)))

pub number_parts : (n : ℕ) (bytes : List ℕ) → IsBytes bytes → n ≤ length bytes
    → bytes ≡ big_bytes n (big_number n bytes) ++ drop n bytes
number_parts n bytes h fits = rw (bytes_of_number n bytes h fits) (sym (take-append-drop n bytes))

-- the bytes from `at` on are a number of w bytes, and the bytes after it
pub number_stands : (at w : ℕ) (bytes : List ℕ) → IsBytes bytes → at + w ≤ length bytes
    → drop at bytes ≡ big_bytes w (big_number w (drop at bytes)) ++ drop (at + w) bytes
number_stands at w bytes h room =
    let within : w ≤ length (drop at bytes) = omega (arith, length-drop at bytes) in
    number_parts w (drop at bytes) (bytes-drop at bytes h) within
    ∙ ap (λ rest. big_bytes w (big_number w (drop at bytes)) ++ rest) (drop-drop w at bytes)

-- the bytes after the first n
pub behind_bytes : (n : ℕ) (front rest : List ℕ) → length front ≡ n → drop n (front ++ rest) ≡ rest
behind_bytes n front rest e = rw (← e) (drop-append_seam front rest)

pub first_bytes : (n : ℕ) (front rest : List ℕ) → length front ≡ n → take n (front ++ rest) ≡ front
first_bytes n front rest e = rw (← e) (take-append_seam front rest)

pub behind_number : (n x : ℕ) (rest : List ℕ) → drop n (big_bytes n x ++ rest) ≡ rest
behind_number n x rest = behind_bytes n (big_bytes n x) rest (length-bytes_high_first n x)

-- two numbers of n bytes that begin the same text are equal, and the rests of the text after them are equal
pub same_number : (n x y : ℕ) (rest more : List ℕ) → x < 256 ^ n → y < 256 ^ n
    → big_bytes n x ++ rest ≡ big_bytes n y ++ more → (x ≡ y) × (rest ≡ more)
same_number n x y rest more h k e = (
  sym (big_number-reads_back n x rest h) ∙ ap (big_number n) e ∙ big_number-reads_back n y more k,
  sym (behind_number n x rest)
      ∙ ap (drop n) e ∙ behind_number n y more,
)

-- two lists of n bytes that begin the same text are equal, and the rests of the text after them are equal
pub same_front : (n : ℕ) (xs ys rest more : List ℕ) → length xs ≡ n → length ys ≡ n → xs ++ rest ≡ ys ++ more
    → (xs ≡ ys) × (rest ≡ more)
same_front n xs ys rest more h k e = (
  sym (first_bytes n xs rest h) ∙ ap (take n) e ∙ first_bytes n ys more k,
  sym (behind_bytes n xs rest h)
      ∙ ap (drop n) e ∙ behind_bytes n ys more k,
)
