-- The bytes from the sub-record's place on begin with its spelling, so they are at least as many.
use Rattle.hprof_grammar.proofs.Places.{sub_stands}
use Rattle.hprof_grammar.proofs.placed.stands_within.Goals as goal

pub returns : goal.returns
returns c = λ v at sub h. (sub_stands v.id_size v.bytes at sub h).inside
