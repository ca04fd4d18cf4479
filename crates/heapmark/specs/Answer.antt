-- The result of a run for the bytes that it read.
use Rattle.std.specs.Prelude.{IfSome, IsSome, List, Option, take, ℕ, ◌≡◌, ◌≢◌, ◌≤◌, ◌↔◌, ◌⊎◌}
use Rattle.std.specs.Io.KnownBytes.{Appends, Consumes}
use Rattle.heap_graph.specs.Accepted.{IsAccepted}
use Rattle.heap_graph.specs.LinkFault.{HasLinkFault}
use Rattle.heap_graph.specs.Skips.{SkipEntry}
use Rattle.histogram.specs.Report.{IsReport}
use Rattle.front_end.specs.RunRefusals.{out_of_memory, read_fault, fault_refusal}
use Rattle.front_end.specs.declared.refusal.Refusal.{Refusal}
use Rattle.histogram.specs.Counting.{AppendsBeginning}
use Rattle.hprof_grammar.specs.Fault.{FirstFault}
use Rattle.hprof_grammar.specs.Record.{Record}

-- The most bytes of a run: one more than the largest dump has.
abbrev pub read_limit : ℕ
read_limit = 1073741825

-- The bytes of a run: all that its reader gives, but at most `read_limit`.
abbrev pub bytes_read : List ℕ → List ℕ
bytes_read given = take read_limit given

-- The bytes of a run were taken from what the reader gives, and no others.
abbrev pub ConsumesBytesRead : Option (List ℕ) → Option (List ℕ) → Type 0
ConsumesBytesRead old new = IfSome old (λ given. Consumes old new (bytes_read given))

-- The text spells a dump whose records are in order and whose objects are linked.
abbrev pub IsAcceptedText : List ℕ → Type 0
IsAcceptedText text = (id_size : ℕ) × (records : List Record) × IsAccepted text id_size records

-- The first fault of a text: that of its form, or, if its form has none, that of its links.
abbrev pub FirstFaultOf : List ℕ → ℕ → ℕ → Type 0
FirstFaultOf text code place = FirstFault text code place ⊎ HasLinkFault text code place

-- The refusal is the first fault of the text.
pub record RefusesFirstFault (text : List ℕ) (refusal : Refusal) : Type 0 where
  pub place : ℕ
  pub is : refusal ≡ fault_refusal refusal.code place
  pub fault : FirstFaultOf text refusal.code place

-- The code is 1 to 20, but not 17, which is withdrawn; 21 is impossible, since the options of a run are in their
-- ranges. The refusal has a place just if the code is at most 14.
pub record IsRunRefusal (refusal : Refusal) : Type 0 where
  pub least : 1 ≤ refusal.code
  pub most : refusal.code ≤ 20
  pub in_use : refusal.code ≢ 17
  pub placed : (refusal.code ≤ 14) ↔ IsSome refusal.offset

-- The refusal of a text that is not accepted: its first fault, or else a failure of an allocation or of the reader.
abbrev pub IsRefusalOf : List ℕ → Refusal → Type 0
IsRefusalOf text refusal = RefusesFirstFault text refusal ⊎ (refusal ≡ out_of_memory) ⊎ (refusal ≡ read_fault)

-- the report of the text without the fields of `skip` was written, and nothing else
pub record WritesReport (text : List ℕ) (skip : List SkipEntry) (old new : Option (List ℕ)) : Type 0 where
  pub report : List ℕ
  pub is : IsReport text skip report
  pub written : Appends old new report

-- a beginning of that report was written, and nothing else
pub record WritesBeginning (text : List ℕ) (skip : List SkipEntry) (old new : Option (List ℕ)) : Type 0 where
  pub report : List ℕ
  pub is : IsReport text skip report
  pub written : AppendsBeginning old new report

-- the report of some text without the fields of `skip` was written, and nothing else
abbrev pub WritesSomeReport : List SkipEntry → Option (List ℕ) → Option (List ℕ) → Type 0
WritesSomeReport skip old new = (text : List ℕ) × WritesReport text skip old new

-- a beginning of such a report was written, and nothing else
abbrev pub WritesSomeBeginning : List SkipEntry → Option (List ℕ) → Option (List ℕ) → Type 0
WritesSomeBeginning skip old new = (text : List ℕ) × WritesBeginning text skip old new
