-- What the lines of all commands have in common: rules of arguments, and what words give or do wrong at a line. A line
-- is a simple command in clap's definitions.
use Rattle.std.specs.Prelude.{List, Option, Some, [], codes, map, true, ℕ, ◌∷◌, ◌≡◌, ◌≢◌, ◌⊎◌}
use Rattle.std.specs.Borrow.{Bor}
use Rattle.clap.specs.Words.{App, IsAmong, Kinds, Rule, Text}
use Rattle.clap.specs.Words.{fault_of, first_of, matches_of, new_rule}
use Rattle.clap.specs.declared.builder.action.ArgAction.TheVariants.{Set}
use Rattle.clap.specs.declared.builder.value_parser.ValueParser.{ValueParser}
use Rattle.clap.specs.declared.builder.value_parser.ValueParser.TheVariants as parser
use Rattle.clap.specs.declared.error.kind.ErrorKind.{ErrorKind}
use Rattle.clap.specs.declared.error.kind.ErrorKind.TheVariants as variant

-- a required argument with one value, which its place among the words names
abbrev pub positional_rule : Text → Rule
positional_rule name = record (new_rule name) {
  required = true;
  action = Some Set;
  value_names = 1;
}

-- the heap dump
abbrev pub file_rule : Rule
file_rule = positional_rule (codes "file")

-- an option `--NAME N` with a default
abbrev pub option_rule : Text → ValueParser → Text → Rule
option_rule name values default = record (new_rule name) {
  long = Some name;
  action = Some Set;
  value_names = 1;
  parser = Some values;
  defaults = default ∷ [];
}

-- an option `--NAME N` with a default, whose numbers are `least` to `most`
abbrev pub number_rule : Text → ℕ → ℕ → Text → Rule
number_rule name least most default = option_rule name (parser.Unsigned least most) default

-- a command that prints its version at --version
abbrev pub with_version : App → App
with_version a = record a { top = record a.top { has_version = true } }

-- the texts of words
abbrev pub texts_of : List (Bor Text) → List Text
texts_of = map (λ word. word.now)

-- what the words give for an argument of the line: the text in them, or the argument's default
abbrev pub text_given : App → Text → List Text → Option Text
text_given line name words = first_of name (matches_of line words)

-- The kinds of error that a parse of the words may return: one for each fault of the words and for each request for the
-- help or the version.
abbrev pub faults_of : App → List Text → Kinds
faults_of line words = fault_of line words

-- nothing is wrong with the words, and they ask for neither help nor version
abbrev pub IsTaken : App → List Text → Type 0
IsTaken line words = faults_of line words ≡ []

-- the words ask for the help or for the version
abbrev pub AsksAboutProgram : App → List Text → Type 0
AsksAboutProgram line words =
    IsAmong variant.DisplayHelp (faults_of line words) ⊎ IsAmong variant.DisplayVersion (faults_of line words)

-- something is wrong with the words: a fault that is no request for the help or the version
abbrev pub IsWrong : App → List Text → Type 0
IsWrong line words = (kind : ErrorKind) × IsAmong kind (faults_of line words)
    × (kind ≢ variant.DisplayHelp) × (kind ≢ variant.DisplayVersion)
