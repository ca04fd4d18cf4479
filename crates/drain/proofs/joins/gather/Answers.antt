-- The leader that has drained is the one whose workers ran, and is free. It has the workers' units after the
-- workers are joined.
use Rattle.drain.proofs.Words.{arith, rules, sym, ◌∙◌}
use Rattle.drain.proofs.Duties.{back_still}
use Rattle.drain.proofs.Scanning.{same_setup}
use Rattle.drain.proofs.joins.gather.Goals as goal

pub returns : goal.returns
returns g c =
    let ended = c.in_ok-drained.ensures.through.0 in
    let joined = c.join_shares.ensures in
    record {
      pool = joined.leads.pool ∙ ended.pool;
      setup = joined.leads.setup ∙ ended.setup;
      seen = λ o was. joined.leads.seen o (ended.seen o was);
      share = omega (arith, joined.share, ended.share);
      free = joined.free;
      tally = joined.tally;
      of_pool = tt;
    }

pub join_shares-requires-clause-pool : goal.join_shares-requires-clause-pool
join_shares-requires-clause-pool g c = c.in_ok-drained.ensures.through.0.pool ∙ c.requires.on_job.pool

pub join_shares-requires-clause-back : goal.join_shares-requires-clause-back
join_shares-requires-clause-back g c k d below =
    let ended = c.in_ok-drained.ensures.through.0 in
    back_still c.in_ok-drained.drained.worker ended.pool ended.setup (c.requires.back k d below)

pub join_shares-requires-clause-measure : goal.join_shares-requires-clause-measure
join_shares-requires-clause-measure g c =
    let setup = same_setup c.in_ok-drained.ensures.through.0.setup c.requires.on_job.setup in
    let had = rw (sym setup.objects) at c.recall_measure.ensures in
    search (rules, had)
