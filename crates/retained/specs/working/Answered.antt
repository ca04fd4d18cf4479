-- What the program did for the words of its command line, whether or not a contract knows them.
use Rattle.std.specs.Prelude.{Bool, IfSome, List, Option, false, ℕ, ◌≡◌}
use Rattle.std.specs.Io.KnownBytes.{Keeps}
use Rattle.histogram.specs.Counting.{failures_of, inner_of}
use Rattle.histogram.specs.declared.counted.Counted.{Counted}
use Rattle.retained.specs.OfFiles.{PrintsReason, PrintsReasonFirst, WritesTableOfFiles}
use Rattle.retained.specs.StatusOf.{IsStatusOf, IsStatusOfSome}
use Rattle.retained_line.specs.Line.{AsksAboutProgram}

-- What the program did for `words`. `bytes_at` and `is_unread` are those of the files: their bytes, if a contract can
-- name them, and which could not be opened or read. `old` and `new` are the program's output before and after, `had`
-- and `has` what standard error had before and has after.
pub record IsDoneFor {W : Type 0} (words : List (List ℕ)) (bytes_at : List ℕ → Option (List ℕ))
    (is_unread : List ℕ → Type 0) (is_terminal : Bool) (status : ℕ) (bytes_of : W → Option (List ℕ))
    (old new : Counted W) (had has : Option (List ℕ)) : Type 0 where
  pub status_is : IsStatusOf words status bytes_of old new
  -- At 0 the table of the files that the words name was written, if a contract can name their bytes.
  pub of_files : status ≡ 0 → (AsksAboutProgram words → ⊥)
      → WritesTableOfFiles bytes_at words (bytes_of (inner_of old)) (bytes_of (inner_of new))
  -- At 1 a reason was printed: first if standard error is a terminal, otherwise alone.
  pub first : status ≡ 1
      → PrintsReasonFirst bytes_at is_unread words (failures_of old) (failures_of new) had has
  pub alone : status ≡ 1 → is_terminal ≡ false
      → PrintsReason bytes_at is_unread words (failures_of old) (failures_of new) had has
  -- At 0 no refusal was printed.
  pub silent : status ≡ 0 → Keeps had has

-- `known` are the words, if a contract knows them.
pub record IsAnswered {W : Type 0} (known : Option (List (List ℕ))) (bytes_at : List ℕ → Option (List ℕ))
    (is_unread : List ℕ → Type 0) (is_terminal : Bool) (status : ℕ) (bytes_of : W → Option (List ℕ))
    (old new : Counted W) (had has : Option (List ℕ)) : Type 0 where
  pub some : IsStatusOfSome status bytes_of old new
  pub of_words : IfSome known (λ words.
      IsDoneFor words bytes_at is_unread is_terminal status bytes_of old new had has)
  pub silent : status ≡ 0 → Keeps had has
