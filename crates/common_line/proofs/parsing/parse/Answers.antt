-- What clap proves of the matches of its parse, in the words of the line.
use Rattle.std.proofs.lemmas.Result.{IfOk-weaker}
use Rattle.clap.proofs.WalkLemmas.{IfOk-both}
use Rattle.common_line.specs.Line.{texts_of}
use Rattle.common_line.proofs.Given.{is_matched}
use Rattle.common_line.proofs.parsing.parse.Goals as goal

pub returns-clause-matched : goal.returns-clause-matched
returns-clause-matched c =
    let parsed = c.try_get_matches_from in
    IfOk-weaker parsed.result _ _
    (λ m made. is_matched c.args.command c.requires (texts_of c.args.words.now) m made.0 made.1)
    (IfOk-both parsed.result _ _ parsed.ensures.parsed parsed.ensures.matches)
