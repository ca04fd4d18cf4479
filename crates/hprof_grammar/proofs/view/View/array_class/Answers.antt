-- The class of an object array follows its identifier, its stack trace and its count.
use Rattle.std.proofs.Common.{◌∙◌}
use Rattle.hprof_grammar.proofs.FieldsStand.{array_class}
use Rattle.hprof_grammar.proofs.view.View.array_class.Goals as goal

pub number_at-requires-clause-room : goal.number_at-requires-clause-room
number_at-requires-clause-room c = (array_class c.self.view_is c.requires.1).room

pub returns : goal.returns
returns c = λ a h. c.number_at.ensures ∙ (array_class c.self.view_is h).value
