-- What the exit status of the program says of the words of its command line and of its output.
use Rattle.std.specs.Prelude.{List, Option, true, ℕ, ◌+◌, ◌≡◌, ◌≢◌, ◌≤◌}
use Rattle.std.specs.Io.KnownBytes.{Keeps}
use Rattle.histogram.specs.Counting.{failures_of, inner_of, is_flushed}
use Rattle.histogram.specs.declared.counted.Counted.{Counted}
use Rattle.retained.specs.OfFiles.{WritesPartOfSomeTable, WritesSomeTable}
use Rattle.retained_line.specs.Line.{AsksAboutProgram, IsTaken, IsWrong}

-- The status of the program for some words. `old` and `new` are the program's output before and after. `bytes_of`
-- yields the bytes of an output, if a contract can name them.
pub record IsStatusOfSome {W : Type 0} (status : ℕ) (bytes_of : W → Option (List ℕ)) (old new : Counted W)
    : Type 0 where
  pub most : status ≤ 2
  -- At 2 nothing was written.
  pub untouched : status ≡ 2 → Keeps (bytes_of (inner_of old)) (bytes_of (inner_of new))
  -- At 1 nothing was written, except a beginning of a table if the writer failed.
  pub unwritten : status ≡ 1 → failures_of new ≡ failures_of old
      → Keeps (bytes_of (inner_of old)) (bytes_of (inner_of new))
  pub part : status ≡ 1 → failures_of new ≡ failures_of old + 1
      → WritesPartOfSomeTable (bytes_of (inner_of old)) (bytes_of (inner_of new))
  pub failures : failures_of new ≤ failures_of old + 1

-- the status of the program for `words`
pub record IsStatusOf {W : Type 0} (words : List (List ℕ)) (status : ℕ) (bytes_of : W → Option (List ℕ))
    (old new : Counted W) : Type 0 where
  pub of_some : IsStatusOfSome status bytes_of old new
  -- Only wrong words get 2. Wrong words that ask for neither help nor version get 2, or 1 if an allocation fails.
  pub usage : status ≡ 2 → IsWrong words
  pub wrong : (IsTaken words → ⊥) → (AsksAboutProgram words → ⊥) → status ≢ 0
  -- At 0, if neither help nor version was asked for, a table was written and flushed.
  pub written : status ≡ 0 → (AsksAboutProgram words → ⊥)
      → WritesSomeTable (bytes_of (inner_of old)) (bytes_of (inner_of new))
  pub flushed : status ≡ 0 → (AsksAboutProgram words → ⊥) → is_flushed new ≡ true
  pub no_failure : status ≢ 1 → (AsksAboutProgram words → ⊥) → failures_of new ≡ failures_of old
