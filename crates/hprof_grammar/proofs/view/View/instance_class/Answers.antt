-- The class of an instance follows its identifier and its stack trace.
use Rattle.std.proofs.Common.{◌∙◌}
use Rattle.hprof_grammar.proofs.FieldsStand.{instance_class}
use Rattle.hprof_grammar.proofs.view.View.instance_class.Goals as goal

pub number_at-requires-clause-room : goal.number_at-requires-clause-room
number_at-requires-clause-room c = (instance_class c.self.view_is c.requires.1).room

pub returns : goal.returns
returns c = λ i h. c.number_at.ensures ∙ (instance_class c.self.view_is h).value
