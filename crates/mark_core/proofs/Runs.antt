-- Every run from an opening marking keeps the law.
use Rattle.std.proofs.Common.{sym, subst}
use Rattle.mark_core.proofs.Words.{Law, RunsKeepLaw, EventsKeepLaw}
use Rattle.mark_core.proofs.Happens.{happens_as, along}
use Rattle.mark_core.proofs.Events.{effect_keeps}
use Rattle.mark_core.proofs.Openings.{opening_keeps}

-- each possible event keeps the law
pub happens_keeps : EventsKeepLaw
happens_keeps e m event law can =
    subst (Law e) (sym (happens_as e m event can))
    (effect_keeps e m law event.worker can.0 can.1.0 can.1.1 event.kind can.2)

pub runs_keep_law : RunsKeepLaw
runs_keep_law e m run =
    let opens = run.2 in
    let first = subst (Law e) (sym opens.2) (opening_keeps e opens.0 opens.1) in
    along e (Law e) (happens_keeps e) run.1 run.0 m first run.3
