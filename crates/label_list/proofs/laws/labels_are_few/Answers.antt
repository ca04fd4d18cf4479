-- Each line's label is below 2^20.
use Rattle.label_list.proofs.Counts.{few}
use Rattle.label_list.proofs.laws.labels_are_few.Goals as goal

pub returns : goal.returns
returns c = λ text list is. few list text is
