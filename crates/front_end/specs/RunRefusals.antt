-- The refusals of a run.
use Rattle.std.specs.Prelude.{IsErrAnd, None, Result, Some, ℕ, ◌≡◌}
use Rattle.front_end.specs.declared.refusal.Refusal.{Refusal}

-- a fault of the bytes, with its place
abbrev pub fault_refusal : ℕ → ℕ → Refusal
fault_refusal code place = record { code = code; offset = Some place }

abbrev pub out_of_memory : Refusal
out_of_memory = record { code = 15; offset = None }

abbrev pub read_fault : Refusal
read_fault = record { code = 19; offset = None }

-- `result` is a refusal with `code`
abbrev pub HasCode : {X : Type 0} → Result X Refusal → ℕ → Type 0
HasCode result code = IsErrAnd result (λ refusal. refusal.code ≡ code)
