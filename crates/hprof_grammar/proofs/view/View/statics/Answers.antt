-- The bytes begin with the static fields' count, so they have room for the fields, and read as those of the class.
use Rattle.hprof_grammar.proofs.Words.{fields_from_statics, ◌∙◌}
use Rattle.hprof_grammar.proofs.ClassPartsRead.{part_seen, statics_read}
use Rattle.hprof_grammar.proofs.view.View.statics.Goals as goal

pub new-requires-clause-room : goal.new-requires-clause-room
new-requires-clause-room c =
    let part = part_seen fields_from_statics c.self.view_is (c.statics_from.ensures c.requires.0 c.requires.1) in
    (statics_read part).room

pub returns : goal.returns
returns c = λ k h.
    let part = part_seen fields_from_statics c.self.view_is (c.statics_from.ensures k h) in
    c.new.ensures ∙ (statics_read part).values
