-- The stack trace of a LOAD CLASS follows its serial number and its class.
use Rattle.std.proofs.Common.{◌∙◌}
use Rattle.hprof_grammar.proofs.RecordsStand.{loaded_class_stack}
use Rattle.hprof_grammar.proofs.view.View.loaded_class_stack_trace.Goals as goal

pub u32_at-requires : goal.u32_at-requires
u32_at-requires c = (loaded_class_stack c.self.view_is c.requires.5).room

pub returns : goal.returns
returns c = λ time serial class stack name h. c.u32_at.ensures ∙ (loaded_class_stack c.self.view_is h).value
