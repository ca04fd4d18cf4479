-- After the static fields, which are passed one by one, the bytes begin with the members' count, and read as members.
use Rattle.hprof_grammar.proofs.Words.{fields_from_statics, ◌∙◌}
use Rattle.hprof_grammar.proofs.ClassPartsRead.{behind_statics, members_read, members_room, part_seen, statics_read}
use Rattle.hprof_grammar.proofs.view.View.members.Goals as goal

pub after_values-members-requires : goal.after_values-members-requires
after_values-members-requires c =
    let part = part_seen fields_from_statics c.self.view_is (c.statics_from.ensures c.requires.0 c.requires.1) in
    (statics_read part).room

pub new-requires-clause-room : goal.new-requires-clause-room
new-requires-clause-room c =
    let part = part_seen fields_from_statics c.self.view_is (c.statics_from.ensures c.requires.0 c.requires.1) in
    members_room (behind_statics part c.after_values-members.ensures)

pub returns : goal.returns
returns c = λ k h.
    let part = part_seen fields_from_statics c.self.view_is (c.statics_from.ensures k h) in
    c.new.ensures ∙ members_read (behind_statics part c.after_values-members.ensures)
