-- The byte at the place is the tag of the root's origin, and the table of tags says its kind: no other case can be.
use Rattle.std.proofs.Common.{arith}
use Rattle.hprof_grammar.proofs.Places.{tagged}
use Rattle.hprof_grammar.proofs.view.View.root_kind.Goals as goal

pub bounds-self-inside-at : goal.bounds-self-inside-at
bounds-self-inside-at c = (tagged c.self.view_is c.requires.1).tag.room

pub returns-in-Some-Root : goal.returns-in-Some-Root
returns-in-Some-Root c = λ r h. grind (arith, (tagged c.self.view_is h).says)

pub returns-in_default : goal.returns-in_default
returns-in_default c = λ r h. grind (arith, (tagged c.self.view_is h).says)

pub returns-in_default-2 : goal.returns-in_default-2
returns-in_default-2 c = λ r h. grind (arith, (tagged c.self.view_is h).says)
