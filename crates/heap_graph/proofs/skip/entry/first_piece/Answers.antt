-- What `split_once` says at an ASCII character, by bytes.
use Rattle.std.proofs.Common.{Some, arith}
use Rattle.std.proofs.lemmas.Str.Pattern.{NoCharPasses-char, split_parts}
use Rattle.heap_graph.proofs.SkipCutting.{lacks}
use Rattle.heap_graph.proofs.skip.entry.first_piece.Goals as goal

pub returns-in-Some-clause-no_comma : goal.returns-in-Some-clause-no_comma
returns-in-Some-clause-no_comma c =
    let parts =
    split_parts 44 c.args.text.now (Some (c.in-Some.piece, c.in-Some.more)) c.in-Some.ensures.cases (omega arith) in
    lacks 44 c.in-Some.piece.now parts.1

pub returns-in-None-clause-no_comma : goal.returns-in-None-clause-no_comma
returns-in-None-clause-no_comma c =
    let text = c.args.text.now in
    lacks 44 text (λ i inside. NoCharPasses-char 44 text i c.in-None.ensures.cases (omega arith) inside)
