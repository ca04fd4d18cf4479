-- What a run returns for the bytes that it read.
use Rattle.std.specs.Prelude.{List, take, ℕ, ◌⊎◌}
use Rattle.heap_graph.specs.Accepted.{IsAccepted}
use Rattle.heap_graph.specs.LinkFault.{HasLinkFault}
use Rattle.hprof_grammar.specs.Fault.{FirstFault}
use Rattle.hprof_grammar.specs.Record.{Record}
use Rattle.label_list.specs.ListText.{IsFirstBadLine}
use Rattle.retention.specs.declared.fault.Fault.{Fault}
use Rattle.retention.specs.declared.fault.Fault.TheVariants as faults

-- the bytes of a run: all that its reader gives, but at most one more than the largest dump has
abbrev pub bytes_of_run : List ℕ → List ℕ
bytes_of_run given = take 1073741825 given

-- the text is an accepted dump
abbrev pub IsAcceptedDump : List ℕ → Type 0
IsAcceptedDump text = (id_size : ℕ) × (records : List Record) × IsAccepted text id_size records

-- The fault is the first one of the bytes of the dump, or of the text of the labels. Other faults say nothing of them.
abbrev pub SaysOfInputs : List ℕ → List ℕ → Fault → Type 0
SaysOfInputs text labels (faults.Dump code place) = FirstFault text code place ⊎ HasLinkFault text code place
SaysOfInputs text labels (faults.BadLabels line) = IsFirstBadLine labels line
SaysOfInputs text labels faults.OutOfMemory = Unit {0}
SaysOfInputs text labels faults.ReadFault = Unit {0}
SaysOfInputs text labels faults.WriteFault = Unit {0}
