-- What the matches of a parse have for the two arguments.
use Rattle.std.specs.Prelude.{IsSome, codes}
use Rattle.clap.specs.Words.{first_value}
use Rattle.clap.specs.declared.parser.matches.Found.{Found}

-- both are found
pub record HasBoth (found : Found) : Type 0 where
  pub file : IsSome (first_value found (codes "file"))
  pub labels : IsSome (first_value found (codes "labels"))
