-- Which calls of a counted writer fail.
use Rattle.std.specs.Prelude.{Bool, Err, List, Ok, Result, length, nat_lt, true, ℕ, ◌&&◌, ◌==◌}

-- a write that took no byte: it returned a fault or 0
abbrev pub takes_nothing : {E : Type 0} → Result ℕ E → Bool
takes_nothing (Ok n) = n == 0
takes_nothing (Err e) = true

-- a write fails if it returns a fault, or if it takes nothing of a slice that is not empty
abbrev pub is_failed_write : {E : Type 0} → Result ℕ E → List ℕ → Bool
is_failed_write (Ok n) bytes = n == 0 && nat_lt 0 (length bytes)
is_failed_write (Err e) bytes = true
