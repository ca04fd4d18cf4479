-- The frame has the time in the 4 bytes after the tag, whatever record it is.
use Rattle.std.proofs.Common.{◌∙◌}
use Rattle.hprof_grammar.proofs.RecordsStand.{record_time}
use Rattle.hprof_grammar.proofs.view.View.record_time.Goals as goal

pub u32_at-requires : goal.u32_at-requires
u32_at-requires c = (record_time c.self.view_is c.requires.1).room

pub returns : goal.returns
returns c = λ r h. c.u32_at.ensures ∙ (record_time c.self.view_is h).value
