-- The meaning of a refusal, and its text.
use Rattle.std.specs.Prelude.{Err, List, Ok, Result, codes, decimal, ℕ, ◌++◌}
use Rattle.hprof_grammar.specs.declared.flaw.FormatFault.{FormatFault}
use Rattle.hprof_grammar.specs.declared.flaw.ReadRefusal.{ReadRefusal}
use Rattle.hprof_grammar.specs.declared.flaw.ReadRefusal.TheVariants.{Fault, OutOfMemory}

-- `P` holds of the fault if the result is a fault of the bytes; out of memory says nothing of the bytes
abbrev pub IfFault : {X : Type 0} → Result X ReadRefusal → (FormatFault → Type 0) → Type 0
IfFault (Ok x) P = Unit {0}
IfFault (Err (Fault f)) P = P f
IfFault (Err OutOfMemory) P = Unit {0}

-- the text of a fault: its code and its place
abbrev pub fault_text : FormatFault → List ℕ
fault_text fault = codes "fault " ++ (decimal fault.code ++ (codes " at " ++ decimal fault.offset))

abbrev pub read_refusal_text : ReadRefusal → List ℕ
read_refusal_text (Fault fault) = codes "the bytes are no heap dump: " ++ fault_text fault
read_refusal_text OutOfMemory = codes "out of memory"
