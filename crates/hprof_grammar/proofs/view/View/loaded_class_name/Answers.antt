-- The name of a LOAD CLASS is the last of its fields, after the stack trace.
use Rattle.std.proofs.Common.{◌∙◌}
use Rattle.hprof_grammar.proofs.RecordsStand.{loaded_class_name}
use Rattle.hprof_grammar.proofs.view.View.loaded_class_name.Goals as goal

pub number_at-requires-clause-room : goal.number_at-requires-clause-room
number_at-requires-clause-room c = (loaded_class_name c.self.view_is c.requires.5).room

pub returns : goal.returns
returns c = λ time serial class stack name h. c.number_at.ensures ∙ (loaded_class_name c.self.view_is h).value
