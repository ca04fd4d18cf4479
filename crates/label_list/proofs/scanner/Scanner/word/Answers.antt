-- A text that begins with the word is cut after it, and another is not cut.
use Rattle.std.proofs.Common.{None, Some, ap, ◌∙◌}
use Rattle.std.proofs.lemmas.Bool.Decides.{Decides-eqb}
use Rattle.std.proofs.lemmas.Slice.Eq.{strip_prefix_is}
use Rattle.label_list.proofs.Lines.{after_found, after_whole}
use Rattle.label_list.proofs.Options.{none_from}
use Rattle.label_list.specs.working.Reading.{after}
use Rattle.label_list.proofs.scanner.Scanner.word.Goals as goal

pub returns-in-Some-clause-there : goal.returns-in-Some-clause-there
returns-in-Some-clause-there c =
    let text = c.args.self.now.rest.now in
    let word = c.args.word.now in
    let behind = c.in-Some.behind in
    ap (after word) (strip_prefix_is Decides-eqb text word (Some behind) c.in-Some.ensures.cases)
    ∙ after_whole word behind.now

pub returns-in-None-clause-missing : goal.returns-in-None-clause-missing
returns-in-None-clause-missing c =
    let text = c.args.self.now.rest.now in
    let word = c.args.word.now in
    let never = strip_prefix_is Decides-eqb text word None c.in-None.ensures.cases in
    none_from (after word text) (λ rest e. never rest (after_found word text rest e))
