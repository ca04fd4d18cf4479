-- The marks' own count of finished objects: each claimed object is one of them.
use Rattle.drain.proofs.Words.{rules, ◌∙◌}
use Rattle.drain.proofs.Counts.{finished_are_set}
use Rattle.drain.proofs.marked.Marked.len.Goals as goal

pub returns : goal.returns
returns g c =
    let counted = c.finished_len.ensures ∙ finished_are_set c.self.inside.marks c.self.invariant.1 in
    search (rules, counted)
