-- A cut changes no set.
use Rattle.labelled_graph.proofs.Stores.{extends_itself}
use Rattle.labelled_graph.proofs.mark.joined.Goals as goal

pub returns-in_default-clause-extends : goal.returns-in_default-clause-extends
returns-in_default-clause-extends g c = extends_itself _
