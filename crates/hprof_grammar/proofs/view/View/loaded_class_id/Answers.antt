-- The class of a LOAD CLASS follows its serial number.
use Rattle.std.proofs.Common.{◌∙◌}
use Rattle.hprof_grammar.proofs.RecordsStand.{loaded_class_id}
use Rattle.hprof_grammar.proofs.view.View.loaded_class_id.Goals as goal

pub number_at-requires-clause-room : goal.number_at-requires-clause-room
number_at-requires-clause-room c = (loaded_class_id c.self.view_is c.requires.5).room

pub returns : goal.returns
returns c = λ time serial class stack name h. c.number_at.ensures ∙ (loaded_class_id c.self.view_is h).value
