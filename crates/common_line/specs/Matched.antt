-- What the matches of a successful parse hold.
use Rattle.std.specs.Prelude.{IsSome, List, Some, [], codes, false, filter, true, ℕ, ◌&&◌, ◌∷◌, ◌≡◌}
use Rattle.std.specs.List.{list_all, list_any}
use Rattle.std.specs.Str.{bytes_eq}
use Rattle.clap.specs.Words.{App, IsUnsignedIn, Rule, Text, first_value, found_of, is_simple_and_free, one_text}
use Rattle.clap.specs.declared.parser.matches.ArgMatches.{ArgMatches}
use Rattle.clap.specs.declared.parser.matches.Found.{Found}
use Rattle.common_line.specs.Line.{number_rule, positional_rule, text_given}

-- A line of which clap's definitions have the matches and the faults: no setting changes how words are read, no
-- argument has a rule on another, and no subcommand makes a required argument optional.
pub record IsPlainLine (line : App) : Type 0 where
  pub defined : is_simple_and_free line ≡ true
  pub plain : line.top.is_plain ≡ true
  pub free : list_all (λ (r : Rule). r.is_simple && r.is_free) line.top.rules ≡ true
  pub strict : line.top.subcommand_negates_reqs ≡ false

-- the names of clap's own arguments, and the empty name
abbrev pub names_of_clap : List Text
names_of_clap = [] ∷ codes "help" ∷ codes "version" ∷ []

-- the line's one argument of this name has this rule, and clap has none of this name
pub record HasRule (line : App) (rule : Rule) : Type 0 where
  pub one : filter (λ (r : Rule). bytes_eq r.id rule.id) line.top.rules ≡ rule ∷ []
  pub own : list_any (λ name. bytes_eq name rule.id) names_of_clap ≡ false

-- a number from `least` to `most` is found for `name`
pub record HasNumber (found : Found) (name : Text) (least most : ℕ) : Type 0 where
  pub text : Text
  pub first : first_value found name ≡ Some text
  pub read : one_text found name ≡ Some text
  pub within : IsUnsignedIn least most text

-- the matches hold what the words give, a value of each required argument, and a number of each option for numbers
pub record IsMatched (line : App) (words : List Text) (m : ArgMatches) : Type 0 where
  pub given : (name : Text) → first_value (found_of m) name ≡ text_given line name words
  pub positional : (name : Text) → HasRule line (positional_rule name) → IsSome (first_value (found_of m) name)
  pub number : (name : Text) (least most : ℕ) (default : Text) → HasRule line (number_rule name least most default)
      → HasNumber (found_of m) name least most
