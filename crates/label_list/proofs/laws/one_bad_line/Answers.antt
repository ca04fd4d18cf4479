-- The lines before a bad one are cut in one way.
use Rattle.label_list.proofs.Lists.{one_bad}
use Rattle.label_list.proofs.laws.one_bad_line.Goals as goal

pub returns : goal.returns
returns c = one_bad
