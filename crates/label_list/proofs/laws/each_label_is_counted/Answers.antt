-- The number of labels is a maximum over the entries.
use Rattle.label_list.proofs.Counts.{counted}
use Rattle.label_list.proofs.laws.each_label_is_counted.Goals as goal

pub returns : goal.returns
returns c = counted
