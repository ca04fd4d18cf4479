-- Seven identifiers, stack trace and instance size come before the constants: the rest begins with their count.
use Rattle.hprof_grammar.proofs.ClassPartsRead.{constants_part, constants_stand}
use Rattle.std.proofs.Common.{arith}
use Rattle.hprof_grammar.proofs.view.View.constants_from.Goals as goal

pub bytes_from-requires : goal.bytes_from-requires
bytes_from-requires c =
    let there = constants_stand c.self.view_is c.requires.1 in
    omega (arith, there.inside)

pub returns : goal.returns
returns c = λ k h. constants_part c.self.view_is h c.bytes_from.ensures
