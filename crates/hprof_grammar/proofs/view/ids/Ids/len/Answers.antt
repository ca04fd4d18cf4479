-- The view reads one identifier for each that remains.
use Rattle.hprof_grammar.proofs.SeriesRead.{length-numbers_in}
use Rattle.hprof_grammar.proofs.view.ids.Ids.len.Goals as goal

pub returns : goal.returns
returns c =
    let count = length-numbers_in c.self.inside.width c.self.inside.left c.self.inside.bytes.now in
    cc (count, c.self.view_is)
