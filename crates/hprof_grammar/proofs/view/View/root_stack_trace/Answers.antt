-- Only a thread object among the roots has a stack trace, which follows its object and its thread.
use Rattle.std.proofs.Common.{◌∙◌}
use Rattle.hprof_grammar.proofs.RootsStand.{root_trace}
use Rattle.hprof_grammar.proofs.view.View.root_stack_trace.Goals as goal

pub u32_at-requires : goal.u32_at-requires
u32_at-requires c = (root_trace c.self.view_is c.requires.1).room

pub returns : goal.returns
returns c = λ n h. c.u32_at.ensures ∙ (root_trace c.self.view_is h).value
