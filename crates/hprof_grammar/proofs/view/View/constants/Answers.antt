-- The bytes begin with the constants' count, so they have room for the constants, and read as those of the class.
use Rattle.hprof_grammar.proofs.Words.{fields_from_constants, ◌∙◌}
use Rattle.hprof_grammar.proofs.ClassPartsRead.{constants_read, part_seen}
use Rattle.hprof_grammar.proofs.view.View.constants.Goals as goal

pub new-requires-clause-room : goal.new-requires-clause-room
new-requires-clause-room c =
    let part = part_seen fields_from_constants c.self.view_is (c.constants_from.ensures c.requires.0 c.requires.1) in
    (constants_read part).room

pub returns : goal.returns
returns c = λ k h.
    let part = part_seen fields_from_constants c.self.view_is (c.constants_from.ensures k h) in
    c.new.ensures ∙ (constants_read part).values
