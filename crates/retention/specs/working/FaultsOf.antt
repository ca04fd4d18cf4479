-- The faults that each half of a run may have.
use Rattle.std.specs.Prelude.{List, ℕ, ◌⊎◌, ◌≡◌}
use Rattle.heap_graph.specs.LinkFault.{HasLinkFault}
use Rattle.hprof_grammar.specs.Fault.{FirstFault}
use Rattle.retention.specs.declared.fault.Fault.{Fault}
use Rattle.retention.specs.declared.fault.Fault.TheVariants as faults

-- the first fault of the dump `text`, or out of memory
abbrev pub IsOfDump : List ℕ → Fault → Type 0
IsOfDump text (faults.Dump code place) = FirstFault text code place ⊎ HasLinkFault text code place
IsOfDump text faults.OutOfMemory = Unit {0}
IsOfDump text (faults.BadLabels line) = ⊥
IsOfDump text faults.ReadFault = ⊥
IsOfDump text faults.WriteFault = ⊥

-- out of memory, or a failed write
abbrev pub IsOfTable : Fault → Type 0
IsOfTable fault = (fault ≡ faults.OutOfMemory) ⊎ (fault ≡ faults.WriteFault)
