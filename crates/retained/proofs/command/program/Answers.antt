-- A table was written, or a refusal printed, or the words name nothing to do.
use Rattle.std.proofs.Common.{arith, inl, inr, refl, ◌≡◌, ◌≢◌}
use Rattle.clap.specs.Words.{kind_of}
use Rattle.front_end.proofs.WordsError.{asks}
use Rattle.histogram.specs.Counting.{failures_of}
use Rattle.retained.proofs.Answered.{only, refused, starved_words, written}
use Rattle.retained.proofs.command.program.Goals as goal
use Rattle.retained.specs.OfFiles.{PrintsReason}
use Rattle.retained.specs.working.NoTable.{fault_of}
use Rattle.retained_line.specs.Line.{AsksAboutProgram, faults_of, texts_of}

pub returns-in-Ok-write_table_of : goal.returns-in-Ok-write_table_of
returns-in-Ok-write_table_of g c =
    let did = c.in-Ok-write_table_of.ensures in
    written (texts_of c.args.words.now) c.in-Ok.arguments _ _ _ _ g.W.Write.contents _ _ _ refl
    c.in-Ok.ensures.given c.in-Ok.ensures.faults did.of_files did.of_some did.flushed did.no_failure

pub returns-in-Err-write_table_of : goal.returns-in-Err-write_table_of
returns-in-Err-write_table_of g c =
    let did = c.in-Err-write_table_of.ensures in
    refused (texts_of c.args.words.now) c.in-Ok.arguments _ _ _ _ g.W.Write.contents _ _ _ _
    (fault_of c.in-Err-write_table_of.reason) c.refuse.ensures.status c.in-Ok.ensures.given (record {
      says = did.says;
      says_of_some = did.says_of_some;
      unread = did.unread;
      write_fault = did.write_fault;
      no_write_fault = did.no_write_fault;
      part = did.part;
      untouched = did.untouched;
    }) c.refuse.ensures.first c.refuse.ensures.alone

pub returns-in-Err : goal.returns-in-Err
returns-in-Err g c =
    let words = texts_of c.args.words.now in
    let kind = kind_of c.in-Err.error in
    let told = c.print_words_error.ensures in
    let not_done : (AsksAboutProgram words → ⊥) → c.print_words_error.result ≢ 0 =
    λ none zero. none (asks (faults_of words) kind (told.asked zero) c.in-Err.ensures.faults) in
    let reason : c.print_words_error.result ≡ 1 → PrintsReason (g.T.Dumps.bytes_at c.args.rt.now)
    (g.T.Dumps.is_unread c.args.rt.now) words (failures_of c.args.out.now) (failures_of c.print_words_error.new.out)
    (g.E.Write.contents c.args.err.now) (g.E.Write.contents c.print_words_error.new.err) =
    λ one. starved_words (g.T.Dumps.bytes_at c.args.rt.now) (g.T.Dumps.is_unread c.args.rt.now) words
    (failures_of c.args.out.now) _ (g.E.Write.contents c.args.err.now) _
    (told.no_failure (λ zero. omega (arith, one, zero))) (told.told one) in
    record {
      status_is = record {
        of_some = record {
          most = told.status;
          untouched = λ two. told.untouched (λ zero. omega (arith, two, zero));
          unwritten = λ one _. told.untouched (λ zero. omega (arith, one, zero));
          part = λ one rose. absurd (omega (arith, rose, told.no_failure (λ zero. omega (arith, one, zero))));
          failures = told.failures;
        };
        usage = λ two.
            let usage = told.usage two in (
              kind,
              elim c.in-Err.ensures.faults [ inl memory ↦ absurd (usage.2 memory) | inr among ↦ among ],
              usage.0,
              usage.1,
            );
        wrong = λ _ none. not_done none;
        written = λ zero none. absurd (not_done none zero);
        flushed = λ zero none. absurd (not_done none zero);
        no_failure = λ _ none. told.no_failure (not_done none);
      };
      of_files = λ zero none. absurd (not_done none zero);
      first = λ one. only _ _ _ _ _ _ _ (reason one);
      alone = λ one _. reason one;
      silent = told.silent;
    }
