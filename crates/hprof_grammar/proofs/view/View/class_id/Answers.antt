-- Six identifiers follow the stack trace one after another, so one is found by its number among them.
use Rattle.std.proofs.Common.{◌∙◌}
use Rattle.hprof_grammar.proofs.FieldsStand.{class_id}
use Rattle.hprof_grammar.proofs.view.View.class_id.Goals as goal

pub number_at-requires-clause-room : goal.number_at-requires-clause-room
number_at-requires-clause-room c =
    (class_id c.args.nth c.self.view_is c.requires.nth c.requires.stands.1).room

pub returns : goal.returns
returns c = λ k h. c.number_at.ensures ∙ (class_id c.args.nth c.self.view_is c.requires.nth h).value
