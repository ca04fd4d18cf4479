-- The constants are passed one by one, each as long as its type says: the rest begins with the static fields' count.
use Rattle.hprof_grammar.proofs.Words.{fields_from_constants, fields_from_statics, sym}
use Rattle.hprof_grammar.proofs.ClassPartsRead.{behind_constants, constants_read, part_seen}
use Rattle.hprof_grammar.proofs.view.View.statics_from.Goals as goal

pub after_values-requires : goal.after_values-requires
after_values-requires c =
    let part = part_seen fields_from_constants c.self.view_is (c.constants_from.ensures c.requires.0 c.requires.1) in
    (constants_read part).room

pub returns : goal.returns
returns c = λ k h.
    let part = part_seen fields_from_constants c.self.view_is (c.constants_from.ensures k h) in
    part_seen fields_from_statics (sym c.self.view_is) (behind_constants part c.after_values.ensures)
