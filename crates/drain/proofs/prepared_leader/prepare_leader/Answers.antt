-- The leader has finished nothing yet, so its tally of no object is that of what it finished.
use Rattle.drain.proofs.Words.{◌∙◌}
use Rattle.drain.proofs.Scanning.{same_tally}
use Rattle.drain.proofs.prepared_leader.prepare_leader.Goals as goal

pub returns-clause-tally : goal.returns-clause-tally
returns-clause-tally g c =
    same_tally (c.in_ok-paired.ensures.goes_on.finished ∙ c.requires.none) c.in_ok-supplies.ensures.tally
