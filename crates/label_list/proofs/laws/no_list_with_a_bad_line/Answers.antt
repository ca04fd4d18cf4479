-- A list that the text spells would have an entry at the bad line.
use Rattle.label_list.proofs.Lists.{no_list}
use Rattle.label_list.proofs.laws.no_list_with_a_bad_line.Goals as goal

pub returns : goal.returns
returns c = no_list
