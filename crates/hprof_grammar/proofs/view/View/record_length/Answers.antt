-- The frame has the length of the body in 4 bytes, after the tag and the time.
use Rattle.std.proofs.Common.{◌∙◌}
use Rattle.hprof_grammar.proofs.RecordsStand.{length_shown, record_length}
use Rattle.hprof_grammar.proofs.view.View.record_length.Goals as goal

pub u32_at-requires : goal.u32_at-requires
u32_at-requires c = (record_length c.self.view_is c.requires.1).room

pub returns : goal.returns
returns c = λ r h. c.u32_at.ensures ∙ (record_length c.self.view_is h).value ∙ length_shown c.self.view_is r
