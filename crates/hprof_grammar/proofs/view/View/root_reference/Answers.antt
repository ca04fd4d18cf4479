-- Only a JNI global among the roots has a reference, which follows its object.
use Rattle.std.proofs.Common.{◌∙◌}
use Rattle.hprof_grammar.proofs.RootsStand.{root_reference}
use Rattle.hprof_grammar.proofs.view.View.root_reference.Goals as goal

pub number_at-requires-clause-room : goal.number_at-requires-clause-room
number_at-requires-clause-room c = (root_reference c.self.view_is c.requires.1).room

pub returns : goal.returns
returns c = λ n h. c.number_at.ensures ∙ (root_reference c.self.view_is h).value
