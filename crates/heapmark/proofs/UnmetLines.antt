-- Lines about unmet entries, one after the other.
use Rattle.std.proofs.Common.{List, Option, [], ℕ, ◌∷◌}
use Rattle.std.proofs.KnownBytes.{Keeps-refl, Keeps-trans}
use Rattle.std.specs.Io.KnownBytes.{Keeps}
use Rattle.front_end.proofs.PrintedLine.{nothing}
use Rattle.heapmark.specs.UnmetEntries.{PrintsOnlyUnmet, PrintsUnmet, unmet_line}
use Rattle.histogram.specs.Counting.{AppendsBeginning}

pub none : (known : Option (List ℕ)) → PrintsOnlyUnmet known known
none known = ([], Keeps-refl known)

pub none_kept : (old new : Option (List ℕ)) → Keeps old new → PrintsOnlyUnmet old new
none_kept old new keeps = ([], keeps)

-- a line of which nothing is written
pub no_line : (known : Option (List ℕ)) (bytes : List ℕ) → AppendsBeginning known known bytes
no_line = nothing

pub one_more : (old between new : Option (List ℕ)) (entry : List ℕ) → PrintsOnlyUnmet old between
    → AppendsBeginning between new (unmet_line entry) → PrintsOnlyUnmet old new
one_more old between new entry printed line = (entry ∷ printed.0, (between, printed.1, line))

after : (entries : List (List ℕ)) (old between new : Option (List ℕ)) → Keeps old between
    → PrintsUnmet entries between new → PrintsUnmet entries old new
after [] old between new keeps printed = Keeps-trans old between new keeps printed
after (entry ∷ earlier) old between new keeps printed =
    (printed.0, after earlier old between printed.0 keeps printed.1, printed.2)

pub after_kept : (old between new : Option (List ℕ)) → Keeps old between → PrintsOnlyUnmet between new
    → PrintsOnlyUnmet old new
after_kept old between new keeps printed = (printed.0, after printed.0 old between new keeps printed.1)
