-- Options that are refused: too few buffers for the workers, or a list of fields that is none.
use Rattle.std.specs.Prelude.{List, codes, ℕ, ◌*◌, ◌+◌, ◌<◌, ◌⊎◌}
use Rattle.command_line.specs.Line.{GivesNumber, text_given}
use Rattle.heapmark.specs.SkippedFields.{HasBadList}

-- `words` give fewer buffers than two for each worker and two more. A number that they do not give has its default.
pub record GivesTooFewBuffers (words : List (List ℕ)) : Type 0 where
  pub workers : ℕ
  pub buffers : ℕ
  pub workers_given : GivesNumber (codes "workers") words workers
  pub buffers_given : GivesNumber (codes "buffers") words buffers
  pub too_few : buffers < 2 * workers + 2

-- `words` give too few buffers for the workers, or for `--skip` a text that is no list of 1 to 64 fields.
abbrev pub HasBadOptions : List (List ℕ) → Type 0
HasBadOptions words = GivesTooFewBuffers words ⊎ HasBadList (text_given (codes "skip") words)
