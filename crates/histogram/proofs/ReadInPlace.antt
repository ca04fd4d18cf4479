-- A read in place: the filled front of a list grows by the bytes that were read after it.
use Rattle.std.proofs.Common.{Err, IfOk, List, Ok, Option, Result, ap, arith, drop, drop_at, length, subst, sym, take}
use Rattle.std.proofs.Common.{ℕ, ◌+◌, ◌++◌, ◌≡◌, ◌≤◌, ◌∙◌}
use Rattle.std.specs.Io.{ReadsAtMost}
use Rattle.std.specs.Io.KnownBytes.{Consumes, ReadConsumes}
use Rattle.std.proofs.KnownBytes.{Consumes-trans}
use Rattle.std.proofs.lemmas.List.{drop-take, take-append-drop, take-append-le, take-take}

-- the bytes that were read into `part` are those from `at` on
pub read_in_place : {E : Type 0} (a b : Option (List ℕ)) (r : Result ℕ E) (front part rest : List ℕ) (at : ℕ)
    → length front ≡ at → ReadsAtMost r part
    → ReadConsumes a b r part → IfOk r (λ n. Consumes a b (take n (drop at (front ++ (part ++ rest)))))
read_in_place a b (Ok n) front part rest at long fits read =
    subst (Consumes a b) (sym (ap (take n) (drop_at front (part ++ rest) at long)
    ∙ take-append-le n part rest fits.0)) read.0
read_in_place a b (Err e) front part rest at long fits read = tt

-- the first `at + n` bytes of a list are its first `at` and n more
grown : (xs ys : List ℕ) (at n : ℕ) → take at ys ≡ take at xs → take at xs ++ take n (drop at ys) ≡ take (at + n) ys
grown xs ys at n front =
    let within : at ≤ at + n = omega arith in
    rw (← front, ← drop-take at n ys, ← take-take at (at + n) ys within) (take-append-drop at (take (at + n) ys))

-- what was consumed before, and then by a read of n more bytes
pub read_on : (a b c : Option (List ℕ)) (xs ys : List ℕ) (at n : ℕ) → take at ys ≡ take at xs
    → Consumes a b (take at xs) → Consumes b c (take n (drop at ys)) → Consumes a c (take (at + n) ys)
read_on a b c xs ys at n front before behind =
    subst (Consumes a c) (grown xs ys at n front) (Consumes-trans a b c _ _ before behind)
