-- The serial number of a LOAD CLASS is the first field of its body.
use Rattle.std.proofs.Common.{◌∙◌}
use Rattle.hprof_grammar.proofs.RecordsStand.{loaded_class_serial}
use Rattle.hprof_grammar.proofs.view.View.loaded_class_serial.Goals as goal

pub u32_at-requires : goal.u32_at-requires
u32_at-requires c = (loaded_class_serial c.self.view_is c.requires.5).room

pub returns : goal.returns
returns c = λ time serial class stack name h. c.u32_at.ensures ∙ (loaded_class_serial c.self.view_is h).value
