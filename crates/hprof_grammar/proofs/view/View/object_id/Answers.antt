-- Each sub-record has an identifier right after its tag.
use Rattle.std.proofs.Common.{◌∙◌}
use Rattle.hprof_grammar.proofs.FieldsStand.{object_id}
use Rattle.hprof_grammar.proofs.view.View.object_id.Goals as goal

pub number_at-requires-clause-room : goal.number_at-requires-clause-room
number_at-requires-clause-room c = (object_id c.self.view_is c.requires.1).room

pub returns : goal.returns
returns c = λ sub h. c.number_at.ensures ∙ (object_id c.self.view_is h).value
