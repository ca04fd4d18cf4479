-- Reading one thing after another, a known number of times: what remains at each turn, and numbers that are passed at
-- once.
use Rattle.hprof_grammar.proofs.Words.{Err, Flaw, List, Ok, Result, Short, ap, arith, behind, cases_lt, drop, drop-drop}
use Rattle.hprof_grammar.proofs.Words.{inl, inr, le-ltb, length, length-drop, list_at, lt-ltb, number_at, raw_at, refl}
use Rattle.hprof_grammar.proofs.Words.{suc, zero, ℕ, ◌*◌, ◌+◌, ◌-◌, ◌<◌, ◌>>=◌, ◌∙◌, ◌∷◌, ◌≡◌, ◌≤◌}

-- changing the value that was read does not change the bytes after it
pub behind_same : {A B : Type 0} (f : A → B) (r : Result (A × List ℕ) Flaw)
    → behind (r >>= λ x. Ok (f x.0, x.1)) ≡ behind r
behind_same f (Ok x) = refl
behind_same f (Err e) = refl

-- if the first part leaves `rest`, the other parts are read there
pub first_passes : {A : Type 0} (one : List ℕ → Result (A × List ℕ) Flaw) (n : ℕ) (r : Result (A × List ℕ) Flaw)
    (rest : List ℕ) → behind r ≡ Ok rest
    → behind (r >>= λ x. list_at one n x.1 >>= λ xs. Ok (x.0 ∷ xs.0, xs.1)) ≡ behind (list_at one n rest)
first_passes one n (Ok x) rest e =
    let same : x.1 ≡ rest = cc in
    behind_same (λ xs. x.0 ∷ xs) (list_at one n x.1) ∙ ap (λ left. behind (list_at one n left)) same
first_passes one n (Err f) rest e = cc

-- if the first part has a flaw, the whole has it
pub first_fails : {A : Type 0} (one : List ℕ → Result (A × List ℕ) Flaw) (n : ℕ) (r : Result (A × List ℕ) Flaw)
    (f : Flaw) → behind r ≡ Err f
    → behind (r >>= λ x. list_at one n x.1 >>= λ xs. Ok (x.0 ∷ xs.0, xs.1)) ≡ Err f
first_fails one n (Ok x) f e = cc
first_fails one n (Err g) f e = e

-- at turn i of n
pub list_step : {A : Type 0} (one : List ℕ → Result (A × List ℕ) Flaw) (n i : ℕ) (bytes rest : List ℕ) → i < n
    → behind (one bytes) ≡ Ok rest
    → behind (list_at one (n - i) bytes) ≡ behind (list_at one (n - (i + 1)) rest)
list_step one n i bytes rest below e =
    let left : n - i ≡ suc (n - (i + 1)) = omega arith in
    ap (λ k. behind (list_at one k bytes)) left ∙ first_passes one (n - (i + 1)) (one bytes) rest e

pub list_stops : {A : Type 0} (one : List ℕ → Result (A × List ℕ) Flaw) (n i : ℕ) (bytes : List ℕ) (f : Flaw) → i < n
    → behind (one bytes) ≡ Err f
    → behind (list_at one (n - i) bytes) ≡ Err f
list_stops one n i bytes f below e =
    let left : n - i ≡ suc (n - (i + 1)) = omega arith in
    ap (λ k. behind (list_at one k bytes)) left ∙ first_fails one (n - (i + 1)) (one bytes) f e

pub list_ends : {A : Type 0} (one : List ℕ → Result (A × List ℕ) Flaw) (n i : ℕ) (bytes : List ℕ) → i ≡ n
    → behind (list_at one (n - i) bytes) ≡ Ok bytes
list_ends one n i bytes e =
    let left : n - i ≡ zero = omega arith in
    ap (λ k. behind (list_at one k bytes)) left

-- the turns of a loop that reads a counted list, and its end
pub ruleset turns = (list_step, list_stops, list_ends)

-- a number for which there is room, and one that is cut
number_passes : (w : ℕ) (bytes : List ℕ) → w ≤ length bytes → behind (number_at w bytes) ≡ Ok (drop w bytes)
number_passes w bytes room = rw (le-ltb (length bytes) w room) refl

number_is_cut : (w : ℕ) (bytes : List ℕ) → length bytes < w → behind (number_at w bytes) ≡ Err Short
number_is_cut w bytes cut = rw (lt-ltb (length bytes) w cut) refl

-- if there is room for the first number, the others are read after it
number_then : (w n : ℕ) (bytes : List ℕ) → w ≤ length bytes
    → behind (list_at (number_at w) (suc n) bytes) ≡ behind (list_at (number_at w) n (drop w bytes))
number_then w n bytes room = first_passes (number_at w) n (number_at w bytes) (drop w bytes)
    (number_passes w bytes room)

-- if there is room for n numbers of w bytes, the bytes after them remain
numbers_pass : (w n : ℕ) (bytes : List ℕ) → n * w ≤ length bytes
    → behind (list_at (number_at w) n bytes) ≡ Ok (drop (n * w) bytes)
numbers_pass w zero bytes room = let none : 0 ≡ 0 * w = omega arith in ap (λ (k : ℕ). Ok (drop k bytes)) none
numbers_pass w (suc n) bytes room =
    let first : w ≤ length bytes = omega arith in
    let others : n * w ≤ length (drop w bytes) = omega (arith, length-drop w bytes) in
    let all : w + n * w ≡ suc n * w = omega arith in
    number_then w n bytes first ∙ numbers_pass w n (drop w bytes) others
    ∙ ap Ok (drop-drop (n * w) w bytes ∙ ap (λ (k : ℕ). drop k bytes) all)

-- if there is no room for n numbers of w bytes, one of them is cut
numbers_are_cut : (w n : ℕ) (bytes : List ℕ) → length bytes < n * w → behind (list_at (number_at w) n bytes) ≡ Err Short
numbers_are_cut w zero bytes cut = let no : ⊥ = omega (arith, cut) in absurd no
numbers_are_cut w (suc n) bytes cut = elim (cases_lt (length bytes) w) [
  | inl short ↦ first_fails (number_at w) n (number_at w bytes) Short (number_is_cut w bytes short)
  | inr room ↦ number_then w n bytes room
      ∙ numbers_are_cut w n (drop w bytes) (omega (arith, length-drop w bytes))
]

-- passing n numbers of w bytes is passing n * w bytes
pub numbers_are_bytes : (w n : ℕ) (bytes : List ℕ)
    → behind (list_at (number_at w) n bytes) ≡ behind (raw_at (n * w) bytes)
numbers_are_bytes w n bytes = elim (cases_lt (length bytes) (n * w)) [
  | inl cut ↦ rw (lt-ltb (length bytes) (n * w) cut) (numbers_are_cut w n bytes cut)
  | inr room ↦ rw (le-ltb (length bytes) (n * w) room) (numbers_pass w n bytes room)
]
