-- The count of a primitive array follows its identifier and its stack trace.
use Rattle.std.proofs.Common.{◌∙◌}
use Rattle.hprof_grammar.proofs.FieldsStand.{element_count}
use Rattle.hprof_grammar.proofs.view.View.element_count.Goals as goal

pub u32_at-requires : goal.u32_at-requires
u32_at-requires c = (element_count c.self.view_is c.requires.1).room

pub returns : goal.returns
returns c = λ a h. c.u32_at.ensures ∙ (element_count c.self.view_is h).value
