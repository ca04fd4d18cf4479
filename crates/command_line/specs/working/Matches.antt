-- What the matches of a parse have for the file and the options.
use Rattle.std.specs.Prelude.{IsSome, Some, codes, ℕ, ◌≡◌}
use Rattle.std.specs.Str.Parse.{IsNumeral, digits_value, without_leading_plus}
use Rattle.clap.specs.Words.{Text, first_value}
use Rattle.clap.specs.declared.parser.matches.Found.{Found}
use Rattle.common_line.specs.Matched.{HasNumber}

-- the file and the options are found, each number in its range
pub record HasAll (found : Found) : Type 0 where
  pub file : IsSome (first_value found (codes "file"))
  pub workers : HasNumber found (codes "workers") 1 64
  pub buffer : HasNumber found (codes "buffer") 2 4096
  pub buffers : HasNumber found (codes "buffers") 4 65534
  pub first_tag : HasNumber found (codes "first-tag") 0 281474976710655

-- the text found for `name` spells `number`
pub record ReadsNumber (found : Found) (name : Text) (number : ℕ) : Type 0 where
  pub text : Text
  pub first : first_value found name ≡ Some text
  pub numeral : IsNumeral 10 (without_leading_plus text)
  pub spelled : number ≡ digits_value 10 (without_leading_plus text)
