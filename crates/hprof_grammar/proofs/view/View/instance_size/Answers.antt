-- The instance size of a class follows its stack trace and seven identifiers, its own among them.
use Rattle.std.proofs.Common.{◌∙◌}
use Rattle.hprof_grammar.proofs.FieldsStand.{instance_size}
use Rattle.hprof_grammar.proofs.view.View.instance_size.Goals as goal

pub u32_at-requires : goal.u32_at-requires
u32_at-requires c = (instance_size c.self.view_is c.requires.1).room

pub returns : goal.returns
returns c = λ k h. c.u32_at.ensures ∙ (instance_size c.self.view_is h).value
