-- What the program did for the words of its command line, whether or not a contract knows them.
use Rattle.std.specs.Prelude.{IfSome, List, Option, Bool, false, ℕ, ◌≡◌}
use Rattle.std.specs.Io.KnownBytes.{Keeps}
use Rattle.command_line.specs.Line.{AsksAboutProgram}
use Rattle.heapmark.specs.Causes.{KnownCauses}
use Rattle.heapmark.specs.OfFile.{PrintsReason, PrintsReasonFirst, WritesReportOfFile}
use Rattle.heapmark.specs.StatusOf.{IsStatusOf}
use Rattle.heapmark.specs.working.StatusOfSome.{IsStatusOfSome}
use Rattle.histogram.specs.Counting.{failures_of, inner_of}
use Rattle.histogram.specs.declared.counted.Counted.{Counted}

-- `known` are the words, if a contract knows them. `bytes_at` and `is_unread` are those of the files: their bytes, if a
-- contract can name them, and which could not be opened or read. `causes` are those that were found. `old` and `new`
-- are the program's output before and after, `had` and `has` what standard error had before and has after. `bytes_of`
-- yields the bytes of an output, if a contract can name them.
pub record IsAnswered {W : Type 0} (known : Option (List (List ℕ))) (bytes_at : List ℕ → Option (List ℕ))
    (is_unread : List ℕ → Type 0) (causes : KnownCauses) (is_terminal : Bool) (status : ℕ)
    (bytes_of : W → Option (List ℕ)) (old new : Counted W) (had has : Option (List ℕ)) : Type 0 where
  pub some : IsStatusOfSome status bytes_of old new
  pub of_words : IfSome known (λ words. IsStatusOf words status bytes_of old new)
  -- At 0 the report of the file that the words name was written, if a contract can name its bytes.
  pub of_file : IfSome known (λ words. status ≡ 0 → (AsksAboutProgram words → ⊥)
      → WritesReportOfFile bytes_at words (bytes_of (inner_of old)) (bytes_of (inner_of new)))
  -- At 1 a reason was printed: first if standard error is a terminal, otherwise alone.
  pub first : status ≡ 1 → IfSome known (λ words.
      PrintsReasonFirst bytes_at is_unread causes words (failures_of old) (failures_of new) had has)
  pub alone : status ≡ 1 → is_terminal ≡ false → IfSome known (λ words.
      PrintsReason bytes_at is_unread causes words (failures_of old) (failures_of new) had has)
  -- At 0 no refusal was printed.
  pub silent : status ≡ 0 → Keeps had has
