-- The command line of heapmark: its options, in clap's definitions, and the arguments that its words give.
use Rattle.std.specs.Prelude.{List, Option, Some, codes, option_map, ℕ, ◌≡◌, ◌≤◌}
use Rattle.std.specs.Str.Parse.{IsNumeral, digits_value, without_leading_plus}
use Rattle.clap.specs.Words.{App, Kinds, Rule, Text, new_app, new_rule, with_rule}
use Rattle.clap.specs.declared.builder.action.ArgAction.TheVariants.{Set}
pub use Rattle.common_line.specs.Line.{file_rule, number_rule, option_rule, texts_of, with_version}
use Rattle.common_line.specs.Line as line
use Rattle.command_line.specs.declared.parsed_arguments.Arguments.{Arguments}

-- an option `--skip LIST` with no default, which takes any text
abbrev pub skip_rule : Rule
skip_rule = record (new_rule (codes "skip")) {
  long = Some (codes "skip");
  action = Some Set;
  value_names = 1;
}

-- heapmark FILE --workers N --buffer N --buffers N --first-tag N --skip LIST
unfoldable pub heapmark_line : App
heapmark_line =
    with_rule (with_rule (with_rule (with_rule (with_rule (with_rule (with_version (new_app (codes "heapmark")))
    file_rule)
    (number_rule (codes "workers") 1 64 (codes "4")))
    (number_rule (codes "buffer") 2 4096 (codes "256")))
    (number_rule (codes "buffers") 4 65534 (codes "1024")))
    (number_rule (codes "first-tag") 0 281474976710655 (codes "0")))
    skip_rule

-- what the words give for the file or an option: the text in them, or the option's default
abbrev pub text_given : Text → List Text → Option Text
text_given name words = line.text_given heapmark_line name words

-- the kinds of error that a parse of the words may return
abbrev pub faults_of : List Text → Kinds
faults_of words = line.faults_of heapmark_line words

-- nothing is wrong with the words, and they ask for neither help nor version
abbrev pub IsTaken : List Text → Type 0
IsTaken words = line.IsTaken heapmark_line words

-- the words ask for the help or for the version
abbrev pub AsksAboutProgram : List Text → Type 0
AsksAboutProgram words = line.AsksAboutProgram heapmark_line words

-- something is wrong with the words: a fault that is no request for the help or the version
abbrev pub IsWrong : List Text → Type 0
IsWrong words = line.IsWrong heapmark_line words

-- the words give `number` for the option `name`: the option's text is a decimal numeral that spells `number`
pub record GivesNumber (name : Text) (words : List Text) (number : ℕ) : Type 0 where
  pub text : Text
  pub given : text_given name words ≡ Some text
  pub numeral : IsNumeral 10 (without_leading_plus text)
  pub spelled : number ≡ digits_value 10 (without_leading_plus text)

-- `a` is what the words give
pub record AreGiven (words : List Text) (a : Arguments) : Type 0 where
  pub file : text_given (codes "file") words ≡ Some a.file.now
  pub workers : GivesNumber (codes "workers") words a.workers
  pub buffer : GivesNumber (codes "buffer") words a.buffer
  pub buffers : GivesNumber (codes "buffers") words a.buffers
  pub first_tag : GivesNumber (codes "first-tag") words a.first_tag
  pub skip : option_map (λ text. text.now) a.skip ≡ text_given (codes "skip") words

-- each number is in the range of its option
pub record AreInRange (a : Arguments) : Type 0 where
  pub some_worker : 1 ≤ a.workers
  pub most_workers : a.workers ≤ 64
  pub least_buffer : 2 ≤ a.buffer
  pub largest_buffer : a.buffer ≤ 4096
  pub least_buffers : 4 ≤ a.buffers
  pub most_buffers : a.buffers ≤ 65534
  pub last_tag : a.first_tag ≤ 281474976710655
