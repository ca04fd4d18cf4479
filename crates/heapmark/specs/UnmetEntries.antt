-- What follows a report at a terminal: the lines about the entries of `--skip` that name no field of the dump.
use Rattle.std.specs.Prelude.{List, Option, [], codes, ℕ, ◌++◌, ◌∷◌}
use Rattle.std.specs.Io.KnownBytes.{Keeps}
use Rattle.front_end.specs.ShownText.{shown_text}
use Rattle.histogram.specs.Counting.{AppendsBeginning}

-- The line about an entry. Its control characters are shown escaped, so the only newline, 10, ends the line.
abbrev pub unmet_line : List ℕ → List ℕ
unmet_line entry =
    codes "heapmark: --skip " ++ shown_text entry
    ++ codes ": no class of the dump declares this field of its instances (static fields are always followed)"
    ++ 10 ∷ []

-- The line about each of `entries` was printed, or a beginning of it if standard error failed, and nothing else. The
-- entry of the last line comes first.
abbrev pub PrintsUnmet : List (List ℕ) → Option (List ℕ) → Option (List ℕ) → Type 0
PrintsUnmet [] old new = Keeps old new
PrintsUnmet (entry ∷ earlier) old new =
    (between : Option (List ℕ)) × PrintsUnmet earlier old between × AppendsBeginning between new (unmet_line entry)

-- nothing was printed but lines about some entries, whichever these are
abbrev pub PrintsOnlyUnmet : Option (List ℕ) → Option (List ℕ) → Type 0
PrintsOnlyUnmet old new = (entries : List (List ℕ)) × PrintsUnmet entries old new
