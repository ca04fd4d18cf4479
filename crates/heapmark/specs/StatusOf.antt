-- What the exit status of the program says of the words of its command line and of its output.
use Rattle.std.specs.Prelude.{List, Option, codes, true, ℕ, ◌*◌, ◌+◌, ◌<◌, ◌≡◌, ◌≢◌, ◌≤◌}
use Rattle.std.specs.Io.KnownBytes.{Keeps}
use Rattle.command_line.specs.Line.{AsksAboutProgram, GivesNumber, IsTaken, IsWrong, text_given}
use Rattle.heapmark.specs.SkippedFields.{HasBadList, WritesBeginningFor, WritesReportFor}
use Rattle.histogram.specs.Counting.{failures_of, inner_of, is_flushed}
use Rattle.histogram.specs.declared.counted.Counted.{Counted}

-- The status of the program for `words`. `old` and `new` are the program's output before and after. `bytes_of`
-- yields the bytes of an output, if a contract can name them.
pub record IsStatusOf {W : Type 0} (words : List (List ℕ)) (status : ℕ) (bytes_of : W → Option (List ℕ))
    (old new : Counted W) : Type 0 where
  pub most : status ≤ 2
  -- Only wrong words get 2. Wrong words that ask for neither help nor version get 2, or 1 if an allocation fails.
  pub usage : status ≡ 2 → IsWrong words
  pub wrong : (IsTaken words → ⊥) → (AsksAboutProgram words → ⊥) → status ≢ 0
  pub untouched : status ≡ 2 → Keeps (bytes_of (inner_of old)) (bytes_of (inner_of new))
  -- At 0, if neither help nor version was asked for, a report without the fields of `--skip` was written and flushed.
  pub reported : status ≡ 0 → (AsksAboutProgram words → ⊥)
      → WritesReportFor (text_given (codes "skip") words) (bytes_of (inner_of old)) (bytes_of (inner_of new))
  pub flushed : status ≡ 0 → (AsksAboutProgram words → ⊥) → is_flushed new ≡ true
  -- Too few buffers for the workers are refused, and so is a `--skip` that is no list. Nothing is written then.
  pub too_few : (workers buffers : ℕ) → GivesNumber (codes "workers") words workers
      → GivesNumber (codes "buffers") words buffers → buffers < 2 * workers + 2 → (AsksAboutProgram words → ⊥)
      → (status ≢ 0) × Keeps (bytes_of (inner_of old)) (bytes_of (inner_of new))
  pub bad_list : HasBadList (text_given (codes "skip") words) → (AsksAboutProgram words → ⊥)
      → (status ≢ 0) × Keeps (bytes_of (inner_of old)) (bytes_of (inner_of new))
  -- At 1 nothing was written, except a beginning of a report if the writer failed.
  pub unwritten : status ≡ 1 → failures_of new ≡ failures_of old
      → Keeps (bytes_of (inner_of old)) (bytes_of (inner_of new))
  pub beginning : status ≡ 1 → failures_of new ≡ failures_of old + 1
      → WritesBeginningFor (text_given (codes "skip") words) (bytes_of (inner_of old)) (bytes_of (inner_of new))
  pub no_failure : status ≢ 1 → (AsksAboutProgram words → ⊥) → failures_of new ≡ failures_of old
  pub failures : failures_of new ≤ failures_of old + 1
