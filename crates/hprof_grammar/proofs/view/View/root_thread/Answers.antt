-- A kind of root that has a thread has it right after its object.
use Rattle.std.proofs.Common.{◌∙◌}
use Rattle.hprof_grammar.proofs.RootsStand.{root_thread}
use Rattle.hprof_grammar.proofs.view.View.root_thread.Goals as goal

pub u32_at-requires : goal.u32_at-requires
u32_at-requires c = (root_thread c.self.view_is c.requires.1).room

pub returns : goal.returns
returns c = λ n h. c.u32_at.ensures ∙ (root_thread c.self.view_is h).value
