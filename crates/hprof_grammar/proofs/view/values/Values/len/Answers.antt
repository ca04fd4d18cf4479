-- The view reads one value for each that remains.
use Rattle.hprof_grammar.proofs.SeriesRead.{length-values_in}
use Rattle.hprof_grammar.proofs.view.values.Values.len.Goals as goal

pub returns : goal.returns
returns c =
    let count = length-values_in c.self.inside.id_size c.self.inside.front c.self.inside.left c.self.inside.bytes.now in
    cc (count, c.self.view_is)
