-- The command line of retained: its two arguments, in clap's definitions, and what its words give for them.
use Rattle.std.specs.Prelude.{List, Option, Some, codes, ◌≡◌}
use Rattle.clap.specs.Words.{App, Kinds, Rule, Text, new_app, with_rule}
pub use Rattle.common_line.specs.Line.{file_rule, positional_rule, texts_of, with_version}
use Rattle.common_line.specs.Line as line
use Rattle.retained_line.specs.declared.parsed_arguments.Arguments.{Arguments}

-- the text of labels
abbrev pub labels_rule : Rule
labels_rule = positional_rule (codes "labels")

-- retained FILE LABELS
unfoldable pub retained_line : App
retained_line = with_rule (with_rule (with_version (new_app (codes "retained"))) file_rule) labels_rule

-- what the words give for FILE or LABELS
abbrev pub text_given : Text → List Text → Option Text
text_given name words = line.text_given retained_line name words

-- the kinds of error that a parse of the words may return
abbrev pub faults_of : List Text → Kinds
faults_of words = line.faults_of retained_line words

-- nothing is wrong with the words, and they ask for neither help nor version
abbrev pub IsTaken : List Text → Type 0
IsTaken words = line.IsTaken retained_line words

-- the words ask for the help or for the version
abbrev pub AsksAboutProgram : List Text → Type 0
AsksAboutProgram words = line.AsksAboutProgram retained_line words

-- something is wrong with the words: a fault that is no request for the help or the version
abbrev pub IsWrong : List Text → Type 0
IsWrong words = line.IsWrong retained_line words

-- `a` is what the words give
pub record AreGiven (words : List Text) (a : Arguments) : Type 0 where
  pub file : text_given (codes "file") words ≡ Some a.file.now
  pub labels : text_given (codes "labels") words ≡ Some a.labels.now
