-- The leader sees all roots and keeps what it saw. It drains with the units that it kept, and has all units after the
-- joins.
use Rattle.drain.proofs.Words.{Contains, IsAtWork, PairState, Setup, [], arith, rules, subst, sym, ◌<◌, ◌∙◌}
use Rattle.drain.specs.working.Jobs.{IsOnJob}
use Rattle.drain.proofs.Leading.{leads_on, several_busy}
use Rattle.drain.proofs.Scanning.{same_setup}
use Rattle.drain.proofs.leader.lead.Goals as goal

pub prepare_leader-requires-clause-busy : goal.prepare_leader-requires-clause-busy
prepare_leader-requires-clause-busy g c =
    let busy = several_busy c.args.leader (omega (arith, c.requires.share)) in
    search (rules, busy)

pub gather-requires-clause-on_job : goal.gather-requires-clause-on_job
gather-requires-clause-on_job g c =
    let begun = c.in_ok-ready.ensures in
    let run = c.in_ok-ran.ensures in
    let new = c.in_ok-ran.ran.paired.worker in
    let several : 1 < new.book.account.share =
    omega (arith, run.share, begun.goes_on.came.share, c.requires.share)
    in
    let at_work = leads_on run.leads several begun.at_work.hand in
    let again : IsAtWork c.in_ok-ran.ran.paired.pair [] new =
    subst (λ (p : PairState). IsAtWork p [] new) (sym run.pair) at_work
    in
    let on_job : IsOnJob g.V.Edges.count g.V.Edges.roots g.V.Edges.pairs g.V.Measured.measure c.args.job.now []
    c.in_ok-ran.ran.paired c.in_ok-ran.ran.tally =
    record {
      pool = run.leads.pool ∙ begun.goes_on.came.pool ∙ c.requires.pool;
      setup = same_setup run.leads.setup (same_setup begun.goes_on.came.setup c.requires.setup);
      at_work = again;
      tally = run.tally;
    }
    in
    search (rules, on_job)

pub returns-clause-led : goal.returns-clause-led
returns-clause-led g c =
    let begun = c.in_ok-ready.ensures in
    let run = c.in_ok-ran.ensures in
    let last = c.in_ok-gather.ensures in
    let since = last.setup ∙ run.leads.setup in
    record {
      pool = last.pool ∙ run.leads.pool ∙ begun.goes_on.came.pool;
      setup = since ∙ begun.goes_on.came.setup;
      share = omega (arith, last.share, run.share, run.count, begun.goes_on.came.share);
      free = last.free;
      saw = λ o root.
          last.seen o (run.leads.seen o (begun.saw o (subst (λ (e : Setup). Contains e.roots o) since root)));
    }
