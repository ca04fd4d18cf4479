-- If the words are no valid arguments, the status is 0 only if they request the help or the version. At any other
-- status nothing is written.
use Rattle.std.proofs.Common.{arith, inl, inr, ◌≢◌}
use Rattle.clap.specs.Words.{kind_of}
use Rattle.command_line.specs.Line.{AsksAboutProgram, faults_of, texts_of}
use Rattle.front_end.proofs.WordsError.{asks}
use Rattle.heapmark.proofs.command.answer_line.Goals as goal

pub returns-in-Err-clause-status : goal.returns-in-Err-clause-status
returns-in-Err-clause-status g c =
    let words = texts_of c.args.words.now in
    let kind = kind_of c.in-Err.error in
    let told = c.print_words_error.ensures in
    let not_done : (AsksAboutProgram words → ⊥) → c.print_words_error.result ≢ 0 =
    λ none zero. none (asks (faults_of words) kind (told.asked zero) c.in-Err.ensures.faults) in
    record {
      most = told.status;
      usage = λ two.
          let usage = told.usage two in (
            kind,
            elim c.in-Err.ensures.faults [ inl memory ↦ absurd (usage.2 memory) | inr among ↦ among ],
            usage.0,
            usage.1,
          );
      wrong = λ _ none. not_done none;
      untouched = λ two. told.untouched (λ zero. omega (arith, two, zero));
      reported = λ zero none. absurd (not_done none zero);
      flushed = λ zero none. absurd (not_done none zero);
      too_few = λ _ _ _ _ _ none. (not_done none, told.untouched (not_done none));
      bad_list = λ _ none. (not_done none, told.untouched (not_done none));
      unwritten = λ one _. told.untouched (λ zero. omega (arith, one, zero));
      beginning = λ one rose. absurd (omega (arith, rose, told.no_failure (λ zero. omega (arith, one, zero))));
      no_failure = λ _ none. told.no_failure (not_done none);
      failures = told.failures;
    }

pub returns-in-Err-clause-of_file : goal.returns-in-Err-clause-of_file
returns-in-Err-clause-of_file g c =
    let words = texts_of c.args.words.now in
    λ zero none. absurd (none (asks (faults_of words) (kind_of c.in-Err.error) (c.print_words_error.ensures.asked zero)
    c.in-Err.ensures.faults))
