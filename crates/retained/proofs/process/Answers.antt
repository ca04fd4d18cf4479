-- The words that the program gets are those of the command line, if these are known.
use Rattle.std.proofs.Common.{ap, map, rules, string_bytes, ◌∙◌}
use Rattle.retained.proofs.Answered.{answered, not_text, starved}
use Rattle.retained.proofs.process.Goals as goal
use Rattle.retained_line.specs.Line.{texts_of}

pub returns-in-Err : goal.returns-in-Err
returns-in-Err g c =
    not_text (g.L.CommandWords.words c.args.line.now) _ _ _ _ g.W.Write.contents c.args.out.now _ _
    (search (rules, c.in-Err.ensures.text, c.if-eq.ensures)) c.refuse_bytes.ensures

pub returns-in-Err-2 : goal.returns-in-Err-2
returns-in-Err-2 g c =
    starved (g.L.CommandWords.words c.args.line.now) _ _ _ _ g.W.Write.contents c.args.out.now _ _
    c.print_refusal.ensures.status c.print_refusal.ensures.line

pub returns : goal.returns
returns g c =
    starved (g.L.CommandWords.words c.args.line.now) _ _ _ _ g.W.Write.contents c.args.out.now _ _
    c.print_refusal-in-Err-words_of.ensures.status c.print_refusal-in-Err-words_of.ensures.line

pub returns-in-Ok-words_of : goal.returns-in-Ok-words_of
returns-in-Ok-words_of g c =
    answered (g.L.CommandWords.words c.args.line.now) (texts_of c.as_slice.result.now)
    (map string_bytes c.in-Ok.texts.items) _ _ _ _ g.W.Write.contents _ _ _ _
    (ap texts_of c.as_slice.ensures.value ∙ c.in-Ok-words_of.ensures ∙ ap (map string_bytes) c.deref.ensures.value)
    c.in-Ok.ensures.same c.program.ensures
