-- What the tests of the parts say of the whole.
use Rattle.heap_graph.proofs.Words.{AreFine, AreObjects, IsLinked, List, Sight, SubRecord, ap, arith, cases_lt, length}
use Rattle.heap_graph.proofs.Words.{min, ℕ, ⊎_elim, ◌%◌, ◌*◌, ◌+◌, ◌/◌, ◌<◌, ◌∙◌, ◌≡◌, ◌≤◌}
use Rattle.std.proofs.lemmas.Nat.{div-add-mod', mod_below}
use native.Mathlib.Nat.{add-mul, one-mul}
use Rattle.heap_graph.proofs.Standings.{number_below}

-- no object comes before the first
pub none_first : (s : ℕ) (heap : List SubRecord) → AreFine s heap 0
none_first s heap k rule h f = absurd (omega (arith, h))

-- each object has a place
pub all_linked : (s : ℕ) (v : Sight) (places ids : List ℕ) (heap : List SubRecord) (to : ℕ) → length places ≤ to
    → AreObjects v places ids heap → AreFine s heap to → IsLinked s heap
all_linked s v places ids heap to h are fine n rule f =
    let below = number_below v places ids heap n f.0 are f.1 in fine n rule (omega (arith, h, below)) f

-- the parts reach the end of the list
pub reaches : (count len size : ℕ) → 0 < size → count ≡ len / size + min 1 (len % size) → len ≤ count * size
reaches count len size p is =
    let whole : len / size * size + len % size ≡ len = div-add-mod' len size in
    let rest : len % size < size = mod_below len size p in
    ⊎_elim
    (λ h. let e : count ≡ len / size + 1 = omega (arith, is, h) in
    let w = ap (λ (n : ℕ). n * size) e ∙ add-mul (len / size) 1 size in
    omega (arith, whole, rest, w, one-mul size))
    (λ h. let e : count ≡ len / size = omega (arith, is, h) in
    let w = ap (λ (n : ℕ). n * size) e in omega (arith, whole, w, h))
    (cases_lt 0 (len % size))

-- and a part begins where the one before ends
pub next_part : (n size : ℕ) → (n + 1) * size ≡ n * size + size
next_part n size = add-mul n 1 size ∙ ap (λ (k : ℕ). n * size + k) (one-mul size)
