-- If a function passes on the refusal of a call, what holds of the fault after the call carries over.
use Rattle.hprof_grammar.proofs.Words.{Err, Fault, FormatFault, IfFault, OutOfMemory, ReadRefusal, Result, ◌≡◌}

fault_maps : (X Y : Type 0) (refusal : ReadRefusal) (P Q : FormatFault → Type 0)
    → ((fault : FormatFault) → P fault → Q fault) → IfFault {X = X} (Err refusal) P → IfFault {X = Y} (Err refusal) Q
fault_maps X Y (Fault fault) P Q map h = map fault h
fault_maps X Y OutOfMemory P Q map h = tt

-- when a `?` returns the refusal
pub fault_passes : (X : Type 0) {Y : Type 0} {result : Result Y ReadRefusal} {refusal : ReadRefusal}
    (P Q : FormatFault → Type 0) → (passed : ReadRefusal) × (result ≡ Err passed) × (passed ≡ refusal)
    → ((fault : FormatFault) → P fault → Q fault) → IfFault {X = X} (Err refusal) P → IfFault result Q
fault_passes X {Y} {refusal = refusal} P Q exit map h = rw (exit.1, exit.2) (fault_maps X Y refusal P Q map h)
