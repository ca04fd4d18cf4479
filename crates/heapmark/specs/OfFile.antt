-- What the program writes and prints for the file that the words of its command line name, if a contract can name the
-- bytes of the file.
use Rattle.std.specs.Prelude.{IfSome, IsSomeAnd, List, Option, codes, option_and_then, ℕ, ◌+◌, ◌≡◌, ◌≤◌, ◌↔◌, ◌⊎◌}
use Rattle.command_line.specs.Line.{text_given}
use Rattle.heap_graph.specs.Skips.{SkipEntry}
use Rattle.heapmark.specs.Answer.{IsAcceptedText, IsRefusalOf, IsRunRefusal, RefusesFirstFault, WritesReport}
use Rattle.heapmark.specs.Answer.{bytes_read}
use Rattle.front_end.specs.RefusalCodes.{bad_options_refusal}
use Rattle.heapmark.specs.BadOptions.{HasBadOptions}
use Rattle.heapmark.specs.Causes.{HasCauseFor, KnownCauses}
use Rattle.heapmark.specs.RefusalText.{refusal_line}
use Rattle.heapmark.specs.SecondLine.{PrintsHintFor}
use Rattle.heapmark.specs.SkippedFields.{IsSkipListOf}
use Rattle.front_end.specs.declared.refusal.Refusal.{Refusal}
use Rattle.histogram.specs.Counting.{AppendsBeginning}

-- The bytes of the file that `words` name, if they name one and a contract can name its bytes. `bytes_at` has the bytes
-- of the files with names.
abbrev pub bytes_of_file : (List ℕ → Option (List ℕ)) → List (List ℕ) → Option (List ℕ)
bytes_of_file bytes_at words = option_and_then bytes_at (text_given (codes "file") words)

-- `bytes` are an accepted dump, and their report without the fields that `list` spells was written, and nothing else.
pub record WritesReportOfBytes (list : Option (List ℕ)) (bytes : List ℕ) (old new : Option (List ℕ)) : Type 0 where
  pub skip : List SkipEntry
  pub is_list : IsSkipListOf list skip
  pub written : WritesReport (bytes_read bytes) skip old new

-- The report of the file that `words` name, without the fields that they list, was written, and nothing else.
abbrev pub WritesReportOfFile : (List ℕ → Option (List ℕ)) → List (List ℕ) → Option (List ℕ) → Option (List ℕ)
    → Type 0
WritesReportOfFile bytes_at words old new =
    IfSome (bytes_of_file bytes_at words) (λ bytes.
    WritesReportOfBytes (text_given (codes "skip") words) bytes old new)

-- The refusal is a reason to have no report of the file whose bytes are `known`. `before` and `after` are the writer's
-- counts of failures.
pub record IsReason (known : Option (List ℕ)) (before after : ℕ) (refusal : Refusal) : Type 0 where
  -- a refusal of a run, or that of bad options
  pub possible : IsRunRefusal refusal ⊎ (refusal ≡ bad_options_refusal)
  -- a fault is the first fault of the file
  pub fault : refusal.code ≤ 14 → IfSome known (λ bytes. RefusesFirstFault (bytes_read bytes) refusal)
  -- a file that is no accepted dump is refused with its first fault, unless something else failed first: an allocation,
  -- the reader, or the test of the options
  pub not_accepted : IfSome known (λ bytes. (IsAcceptedText (bytes_read bytes) → ⊥)
      → IsRefusalOf (bytes_read bytes) refusal ⊎ (refusal ≡ bad_options_refusal))
  -- the writer failed just if the code is 20
  pub write_fault : (refusal.code ≡ 20) ↔ (after ≡ before + 1)

-- `words` name a file that could not be opened or read. `is_unread` says which dumps could not be opened or read.
abbrev pub HasUnreadFile : (List ℕ → Type 0) → List (List ℕ) → Type 0
HasUnreadFile is_unread words = IsSomeAnd (text_given (codes "file") words) is_unread

-- The line of a refusal was printed, or a beginning of it if standard error failed, and nothing else. The refusal is a
-- reason to have no report of the file that `words` name.
pub record PrintsReason (bytes_at : List ℕ → Option (List ℕ)) (is_unread : List ℕ → Type 0) (causes : KnownCauses)
    (words : List (List ℕ)) (before after : ℕ) (old new : Option (List ℕ)) : Type 0 where
  pub refusal : Refusal
  pub reason : IsReason (bytes_of_file bytes_at words) before after refusal
  -- options are refused only if they are bad, and a file only if it could not be opened or read
  pub options : refusal.code ≡ 21 → HasBadOptions words
  pub unread : refusal.code ≡ 19 → HasUnreadFile is_unread words
  -- a tag is spent only if a worker of a pool with the first tag of `words` loaded a stack's last one, and a worker
  -- refused only if its thread could not be started
  pub cause : HasCauseFor causes words refusal
  pub line : AppendsBeginning old new (refusal_line refusal)

-- Such a line was printed first. After it, at most one more line was printed, about the file or an option.
pub record PrintsReasonFirst (bytes_at : List ℕ → Option (List ℕ)) (is_unread : List ℕ → Type 0)
    (causes : KnownCauses) (words : List (List ℕ)) (before after : ℕ) (old new : Option (List ℕ)) : Type 0 where
  pub between : Option (List ℕ)
  pub first : PrintsReason bytes_at is_unread causes words before after old between
  pub second : PrintsHintFor words between new
