-- The worker with the opened pair comes from the one that was passed, and is not idle when it begins.
use Rattle.std.proofs.lemmas.Result.{err_from_is_err_and}
use Rattle.drain.proofs.Words.{IsAwake, [], inl, rules, sym, ◌∙◌}
use Rattle.drain.specs.working.Jobs.{IsOnJob}
use Rattle.drain.proofs.AtHand.{came_again}
use Rattle.drain.proofs.Outcomes.{on_if_err, on_if_ok}
use Rattle.drain.proofs.Scanning.{same_setup, same_tally}
use Rattle.drain.proofs.Tokens.{of_same_pool}
use Rattle.drain.proofs.worker_threads.work.Goals as goal

pub work-requires-clause-awake : goal.work-requires-clause-awake
work-requires-clause-awake g c =
    let opened = rw c.in-Paired.is at c.in_ok-paired.ensures.opened in
    let may = c.requires.may in
    let awake : IsAwake c.in-Paired.paired.worker =
    record { share = opened.0.came.share ∙ may.awake.share; idle = opened.0.idle ∙ may.awake.idle }
    in
    search (rules, awake)

pub work-requires-clause-on_job : goal.work-requires-clause-on_job
work-requires-clause-on_job g c =
    let opened = rw c.in-Paired.is at c.in_ok-paired.ensures.opened in
    let may = c.requires.may in
    let on_job : IsOnJob g.V.Edges.count g.V.Edges.roots g.V.Edges.pairs g.V.Measured.measure c.args.job.now []
    c.in-Paired.paired c.args.begun.tally =
    record {
      pool = opened.0.came.pool ∙ may.pool;
      setup = same_setup opened.0.came.setup may.setup;
      at_work = opened.1;
      tally = same_tally opened.0.finished may.tally;
    }
    in
    search (rules, on_job)

pub returns-in-Paired-clause-through : goal.returns-in-Paired-clause-through
returns-in-Paired-clause-through g c =
    let opened = rw c.in-Paired.is at c.in_ok-paired.ensures.opened in
    on_if_ok c.work.result c.work.ensures.through (λ t through. (came_again opened.0.came through.0, through.1))

pub returns-in-Paired-clause-worked : goal.returns-in-Paired-clause-worked
returns-in-Paired-clause-worked g c =
    let opened = rw c.in-Paired.is at c.in_ok-paired.ensures.opened in
    on_if_ok c.work.result c.work.ensures.worked
    (λ t worked. inl (c.in-Paired.paired, worked.0, opened.2, worked.1, worked.2))

-- the worker is of the job's pool
pub returns-in_err-paired-clause-of_pool : goal.returns-in_err-paired-clause-of_pool
returns-in_err-paired-clause-of_pool g c =
    let exit = err_from_is_err_and c.from_residual.result c.from_residual.ensures.1 in
    rw (exit.1, exit.2) (of_same_pool c.in_err-paired.field-0.0 (sym c.requires.may.pool)
    c.in_err-paired.ensures.of_pool)

pub returns-in-Paired-clause-of_pool : goal.returns-in-Paired-clause-of_pool
returns-in-Paired-clause-of_pool g c =
    on_if_err c.work.result c.work.ensures.of_pool (λ stop told. of_same_pool stop (sym c.requires.may.pool) told)
