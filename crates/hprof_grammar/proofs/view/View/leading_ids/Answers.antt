-- Superclass, loader, signers and domain follow one another, so four numbers read from the first on are those four.
use Rattle.std.proofs.Common.{◌∙◌}
use Rattle.hprof_grammar.proofs.FieldsStand.{leading_ids, leading_ids_room}
use Rattle.hprof_grammar.proofs.view.View.leading_ids.Goals as goal

pub new-requires-clause-room : goal.new-requires-clause-room
new-requires-clause-room c = leading_ids_room c.self.view_is c.requires.1

pub returns : goal.returns
returns c = λ k h. c.new.ensures ∙ leading_ids c.self.view_is h
