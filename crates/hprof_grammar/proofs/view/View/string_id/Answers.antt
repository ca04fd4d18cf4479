-- The identifier of a string is the first field of its body.
use Rattle.std.proofs.Common.{◌∙◌}
use Rattle.hprof_grammar.proofs.RecordsStand.{string_id}
use Rattle.hprof_grammar.proofs.view.View.string_id.Goals as goal

pub number_at-requires-clause-room : goal.number_at-requires-clause-room
number_at-requires-clause-room c = (string_id c.self.view_is c.requires.3).room

pub returns : goal.returns
returns c = λ time id text h. c.number_at.ensures ∙ (string_id c.self.view_is h).value
