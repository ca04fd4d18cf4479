-- The type code of a primitive array is one byte, after its count.
use Rattle.hprof_grammar.proofs.FieldsStand.{element_type}
use Rattle.hprof_grammar.proofs.view.View.element_type.Goals as goal

pub bounds-self-inside-at : goal.bounds-self-inside-at
bounds-self-inside-at c = (element_type c.self.view_is c.requires.1).room

pub returns : goal.returns
returns c = λ a h. (element_type c.self.view_is h).value
