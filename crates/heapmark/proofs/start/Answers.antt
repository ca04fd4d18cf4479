-- The words that the program gets are those of the command line, if these are known.
use Rattle.std.proofs.Common.{ap, map, rules, string_bytes, sym, true≢false, ◌∙◌}
use Rattle.command_line.specs.Line.{texts_of}
use Rattle.heapmark.proofs.Answered.{answered, not_text, starved}
use Rattle.heapmark.proofs.OfFile.{only}
use Rattle.heapmark.proofs.start.Goals as goal

pub returns-in-Err : goal.returns-in-Err
returns-in-Err g c =
    not_text (g.L.CommandWords.words c.args.line.now) _ _ _ _ _ g.W.Write.contents c.args.out.now _ _
    (search (rules, c.in-Err.ensures.text, c.if-eq.ensures)) c.refuse_bytes.ensures

pub returns-in-Err-2 : goal.returns-in-Err-2
returns-in-Err-2 g c =
    starved (g.L.CommandWords.words c.args.line.now) _ _ _ _ _ g.W.Write.contents c.args.out.now _ _
    c.print_refusal.ensures.status c.print_refusal.ensures.line

pub returns : goal.returns
returns g c =
    starved (g.L.CommandWords.words c.args.line.now) _ _ _ _ _ g.W.Write.contents c.args.out.now _ _
    c.print_refusal-in-Err-words_of.ensures.status c.print_refusal-in-Err-words_of.ensures.line

pub returns-in-Ok-words_of : goal.returns-in-Ok-words_of
returns-in-Ok-words_of g c =
    let told = c.program_at_terminal.ensures in
    answered (g.L.CommandWords.words c.args.line.now) (texts_of c.as_slice.result.now)
    (map string_bytes c.in-Ok.texts.items) (g.T.Dumps.bytes_at c.args.rt.now) (g.T.Dumps.is_unread c.args.rt.now)
    (g.T.Causes.causes c.args.rt.now) _ _
    g.W.Write.contents _ _
    (g.E.Write.contents c.args.err.now) _
    (ap texts_of c.as_slice.ensures.value ∙ c.in-Ok-words_of.ensures ∙ ap (map string_bytes) c.deref.ensures.value)
    c.in-Ok.ensures.same told.status told.of_file told.told
    (λ _ no. absurd (true≢false (sym c.if-is_terminal.true ∙ no))) told.silent

pub returns-in-Ok-2 : goal.returns-in-Ok-2
returns-in-Ok-2 g c =
    let told = c.program.ensures in
    answered (g.L.CommandWords.words c.args.line.now) (texts_of c.as_slice-in-Ok-2.result.now)
    (map string_bytes c.in-Ok.texts.items) (g.T.Dumps.bytes_at c.args.rt.now) (g.T.Dumps.is_unread c.args.rt.now)
    (g.T.Causes.causes c.args.rt.now) _ _
    g.W.Write.contents _ _
    (g.E.Write.contents c.args.err.now) _
    (ap texts_of c.as_slice-in-Ok-2.ensures.value ∙ c.in-Ok-words_of.ensures
    ∙ ap (map string_bytes) c.deref.ensures.value)
    c.in-Ok.ensures.same (record {
      most = told.status;
      usage = told.usage;
      wrong = told.wrong;
      untouched = told.untouched;
      reported = told.reported;
      flushed = told.flushed;
      too_few = told.too_few;
      bad_list = told.bad_list;
      unwritten = told.unwritten;
      beginning = told.beginning;
      no_failure = told.no_failure;
      failures = told.failures;
    })
    told.of_file (λ one. only _ _ _ _ _ _ _ _ (told.told one)) (λ one _. told.told one) told.silent
