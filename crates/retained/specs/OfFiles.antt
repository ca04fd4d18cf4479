-- What the program writes and prints for the two files that the words of its command line name.
use Rattle.std.specs.Prelude.{IfSome, IsSomeAnd, List, Option, Some, codes, option_and_then, take, ℕ}
use Rattle.std.specs.Prelude.{◌+◌, ◌↔◌, ◌≡◌, ◌⊎◌}
use Rattle.std.specs.Io.KnownBytes.{Keeps}
use Rattle.front_end.specs.PrintedLine.{PrintsAboutBy}
use Rattle.front_end.specs.RefusalCodes.{bad_options_refusal, write_fault}
use Rattle.front_end.specs.RefusalText.{refusal_line_by}
use Rattle.front_end.specs.RunRefusals.{fault_refusal, out_of_memory, read_fault}
use Rattle.front_end.specs.ShownText.{shown_text}
use Rattle.front_end.specs.declared.refusal.Refusal.{Refusal}
use Rattle.histogram.specs.Counting.{AppendsBeginning}
use Rattle.retained_line.specs.Line.{text_given}
use Rattle.retention.specs.HeldTable.{WritesPartOfTable, WritesTable}
use Rattle.retention.specs.Outcome.{SaysOfInputs, bytes_of_run}
use Rattle.retention.specs.declared.fault.Fault.{Fault}
use Rattle.retention.specs.declared.fault.Fault.TheVariants as faults

-- The bytes of the file that `words` give for `name`, if they give one and a contract can name its bytes. `bytes_at`
-- has the bytes of the files with names.
abbrev pub bytes_given : (List ℕ → Option (List ℕ)) → List ℕ → List (List ℕ) → Option (List ℕ)
bytes_given bytes_at name words = option_and_then bytes_at (text_given name words)

-- the bytes of a text of labels: all that its file has, since none has more than this number
abbrev pub bytes_of_labels : List ℕ → List ℕ
bytes_of_labels given = take 18446744073709551615 given

-- what holds of the bytes of the dump and of those of the labels, if a contract can name both
abbrev pub OfBoth : Option (List ℕ) → Option (List ℕ) → (List ℕ → List ℕ → Type 0) → Type 0
OfBoth dump labels P = IfSome dump (λ text. IfSome labels (λ list. P text list))

-- The table of the dump and of the labels was written, and nothing else: the dump is accepted, and the text of the
-- labels is one.
abbrev pub WritesTableOf : Option (List ℕ) → Option (List ℕ) → Option (List ℕ) → Option (List ℕ) → Type 0
WritesTableOf dump labels old new =
    OfBoth dump labels (λ text list. WritesTable (bytes_of_run text) (bytes_of_labels list) old new)

abbrev pub WritesTableOfFiles : (List ℕ → Option (List ℕ)) → List (List ℕ) → Option (List ℕ) → Option (List ℕ)
    → Type 0
WritesTableOfFiles bytes_at words old new =
    WritesTableOf (bytes_given bytes_at (codes "file") words) (bytes_given bytes_at (codes "labels") words) old new

-- the table of some accepted dump and some text of labels was written, and nothing else; or a beginning of it
abbrev pub WritesSomeTable : Option (List ℕ) → Option (List ℕ) → Type 0
WritesSomeTable old new = (text : List ℕ) × (list : List ℕ) × WritesTable text list old new

abbrev pub WritesPartOfSomeTable : Option (List ℕ) → Option (List ℕ) → Type 0
WritesPartOfSomeTable old new = (text : List ℕ) × (list : List ℕ) × WritesPartOfTable text list old new

-- the refusal that is printed for a fault
abbrev pub refusal_of : Fault → Refusal
refusal_of (faults.Dump code place) = fault_refusal code place
refusal_of (faults.BadLabels line) = bad_options_refusal
refusal_of faults.OutOfMemory = out_of_memory
refusal_of faults.ReadFault = read_fault
refusal_of faults.WriteFault = write_fault

-- The fault is a reason to have no table of the dump and the labels with these bytes. `before` and `after` are the
-- writer's counts of failures.
pub record IsReason (dump labels : Option (List ℕ)) (before after : ℕ) (fault : Fault) : Type 0 where
  -- a fault that speaks of the bytes is the first one of the dump, or of the labels
  pub says : OfBoth dump labels (λ text list. SaysOfInputs (bytes_of_run text) (bytes_of_labels list) fault)
  pub says_of_some : (text : List ℕ) × (list : List ℕ) × SaysOfInputs text list fault
  -- the writer failed just if this is the fault
  pub write_fault : (fault ≡ faults.WriteFault) ↔ (after ≡ before + 1)

-- `words` name a file that could not be opened or read. `is_unread` says which could not.
abbrev pub HasUnreadFile : (List ℕ → Type 0) → List (List ℕ) → Type 0
HasUnreadFile is_unread words =
    IsSomeAnd (text_given (codes "file") words) is_unread ⊎ IsSomeAnd (text_given (codes "labels") words) is_unread

-- the line of the refusal of a fault was printed, or a beginning of it if standard error failed, and nothing else
abbrev pub PrintsRefusal : Fault → Option (List ℕ) → Option (List ℕ) → Type 0
PrintsRefusal fault old new = AppendsBeginning old new (refusal_line_by (codes "retained") (refusal_of fault))

-- a line about the file with this name
abbrev pub PrintsAboutFile : List ℕ → Option (List ℕ) → Option (List ℕ) → Type 0
PrintsAboutFile name old new = PrintsAboutBy (codes "retained") (shown_text name) old new

-- nothing, or a line about one of the two files with these names
abbrev pub PrintsHint : Option (List ℕ) → Option (List ℕ) → Option (List ℕ) → Option (List ℕ) → Type 0
PrintsHint file labels old new =
    Keeps old new
    ⊎ IsSomeAnd file (λ name. PrintsAboutFile name old new)
    ⊎ IsSomeAnd labels (λ name. PrintsAboutFile name old new)

-- the line of a refusal was printed first, and after it nothing or a line about one of the two files
abbrev pub PrintsRefusalFirst : List ℕ → List ℕ → Fault → Option (List ℕ) → Option (List ℕ) → Type 0
PrintsRefusalFirst file labels fault old new =
    (between : Option (List ℕ)) × PrintsRefusal fault old between × PrintsHint (Some file) (Some labels) between new

-- The line of a refusal was printed, or a beginning of it if standard error failed, and nothing else. It is that of a
-- fault which is a reason to have no table of the files that `words` name.
pub record PrintsReason (bytes_at : List ℕ → Option (List ℕ)) (is_unread : List ℕ → Type 0)
    (words : List (List ℕ)) (before after : ℕ) (old new : Option (List ℕ)) : Type 0 where
  pub fault : Fault
  pub reason : IsReason (bytes_given bytes_at (codes "file") words) (bytes_given bytes_at (codes "labels") words)
      before after fault
  pub unread : fault ≡ faults.ReadFault → HasUnreadFile is_unread words
  pub line : PrintsRefusal fault old new

-- Such a line was printed first. After it, at most one more line was printed, about one of the files.
pub record PrintsReasonFirst (bytes_at : List ℕ → Option (List ℕ)) (is_unread : List ℕ → Type 0)
    (words : List (List ℕ)) (before after : ℕ) (old new : Option (List ℕ)) : Type 0 where
  pub between : Option (List ℕ)
  pub first : PrintsReason bytes_at is_unread words before after old between
  pub second : PrintsHint (text_given (codes "file") words) (text_given (codes "labels") words) between new
