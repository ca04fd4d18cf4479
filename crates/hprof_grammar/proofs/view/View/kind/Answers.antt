-- The byte at the place is the tag of the sub-record, and the table of tags says its kind: no other case can be.
use Rattle.std.proofs.Common.{arith}
use Rattle.hprof_grammar.proofs.Places.{tagged}
use Rattle.hprof_grammar.proofs.TableLaws.{kind_described}
use Rattle.hprof_grammar.proofs.view.View.kind.Goals as goal

pub returns-in-Some-Object : goal.returns-in-Some-Object
returns-in-Some-Object c = λ sub h describes.
    grind (arith, (tagged c.self.view_is h).says, kind_described sub describes)

pub returns-in_default : goal.returns-in_default
returns-in_default c = λ sub h describes.
    grind (arith, (tagged c.self.view_is h).says, kind_described sub describes)

pub returns-in_default-2 : goal.returns-in_default-2
returns-in_default-2 c = λ sub h describes.
    grind (arith, (tagged c.self.view_is h).says, kind_described sub describes)
