-- What follows the line of a refusal at a terminal: at most one line, about the file that the words name, or about an
-- option. So it is neither a second refusal nor a line about an entry of `--skip`.
use Rattle.std.specs.Prelude.{IsSomeAnd, List, Option, codes, decimal, ℕ, ◌++◌, ◌≡◌, ◌⊎◌}
use Rattle.std.specs.Io.KnownBytes.{Keeps}
use Rattle.command_line.specs.Line.{text_given}
use Rattle.front_end.specs.PrintedLine.{PrintsAboutBy}
use Rattle.front_end.specs.ShownText.{shown_text}

-- how the line names an option: `--skip`, or another one with its number
abbrev pub IsOption : List ℕ → Type 0
IsOption text =
    (text ≡ codes "--skip")
    ⊎ ((n : ℕ) × ((text ≡ codes "--first-tag " ++ decimal n) ⊎ (text ≡ codes "--workers " ++ decimal n)
    ⊎ (text ≡ codes "--buffers " ++ decimal n)))

-- A line about `subject` was printed, or a beginning of it if standard error failed, and nothing else.
abbrev pub PrintsAbout : List ℕ → Option (List ℕ) → Option (List ℕ) → Type 0
PrintsAbout subject old new = PrintsAboutBy (codes "heapmark") subject old new

-- such a line about the file or an option
abbrev pub PrintsHint : List ℕ → Option (List ℕ) → Option (List ℕ) → Type 0
PrintsHint file old new =
    PrintsAbout (shown_text file) old new
    ⊎ ((option : List ℕ) × IsOption option × PrintsAbout option old new)

-- such a line about the file that `words` name or about an option, or nothing
abbrev pub PrintsHintFor : List (List ℕ) → Option (List ℕ) → Option (List ℕ) → Type 0
PrintsHintFor words old new =
    Keeps old new ⊎ IsSomeAnd (text_given (codes "file") words) (λ file. PrintsHint file old new)
