-- A text is cut into lines in one way.
use Rattle.label_list.proofs.Lists.{one_list}
use Rattle.label_list.proofs.laws.one_label_list.Goals as goal

pub returns : goal.returns
returns c = λ text list other is are. one_list list other text is are
