-- A line about something that was printed on standard error.
use Rattle.std.specs.Prelude.{All, List, Option, codes, ℕ, ◌++◌, ◌≢◌}
use Rattle.front_end.specs.RefusalText.{line_by}
use Rattle.histogram.specs.Counting.{AppendsBeginning}

-- The program `program` printed a line about `subject`, or a beginning of it if standard error failed, and nothing
-- else. Its text has no newline, 10, so it is one line.
abbrev pub PrintsAboutBy : List ℕ → List ℕ → Option (List ℕ) → Option (List ℕ) → Type 0
PrintsAboutBy program subject old new =
    (text : List ℕ) × All (λ byte. byte ≢ 10) text
    × AppendsBeginning old new (line_by program (subject ++ codes ": " ++ text))
