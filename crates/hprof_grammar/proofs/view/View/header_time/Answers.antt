-- The bytes begin with a header, which has its time in the 8 bytes from place 23 on.
use Rattle.std.proofs.Common.{◌∙◌}
use Rattle.hprof_grammar.proofs.RecordsStand.{header_time}
use Rattle.hprof_grammar.proofs.view.View.header_time.Goals as goal

pub number_at-requires-clause-room : goal.number_at-requires-clause-room
number_at-requires-clause-room c = (header_time c.self.view_is c.requires.1).room

pub returns : goal.returns
returns c = λ time h. c.number_at.ensures ∙ (header_time c.self.view_is h).value
