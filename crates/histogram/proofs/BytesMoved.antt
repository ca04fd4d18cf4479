-- The bytes that a writer took in several calls.
use Rattle.std.proofs.Common.{◌≡◌, ℕ, ◌+◌, ◌-◌, ◌≤◌, List, ◌++◌, Option, length, take, drop, arith}
use Rattle.std.specs.Io.KnownBytes.{Appends}
use Rattle.std.proofs.KnownBytes.{Appends-trans}
use Rattle.std.proofs.lemmas.List.{drop-take, take-append-drop, take-take}

-- the bytes before `at` and `count` more are the bytes before `at + count`
pub take_on : (bytes : List ℕ) (at count : ℕ) → count ≤ length bytes - at
    → take at bytes ++ take count (take (length bytes - at) (drop at bytes)) ≡ take (at + count) bytes
take_on bytes at count fits = let at_most : at ≤ at + count = omega arith in
    rw (
      take-take count (length bytes - at) (drop at bytes) fits,
      ← drop-take at count bytes,
      ← take-take at (at + count) bytes at_most,
    ) (take-append-drop at (take (at + count) bytes))

pub takes_on : (old mid new : Option (List ℕ)) (bytes : List ℕ) (at count : ℕ) → count ≤ length bytes - at
    → Appends old mid (take at bytes) → Appends mid new (take count (take (length bytes - at) (drop at bytes)))
    → Appends old new (take (at + count) bytes)
takes_on old mid new bytes at count fits before behind =
    rw (← take_on bytes at count fits)
    (Appends-trans old mid new (take at bytes) (take count (take (length bytes - at) (drop at bytes))) before behind)
