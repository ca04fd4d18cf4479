-- The view reads one member for each that remains.
use Rattle.hprof_grammar.proofs.SeriesRead.{length-members_in}
use Rattle.hprof_grammar.proofs.view.members.Members.len.Goals as goal

pub returns : goal.returns
returns c =
    let count = length-members_in c.self.inside.id_size c.self.inside.left c.self.inside.bytes.now in
    cc (count, c.self.view_is)
