-- The leader leads through the starts, and each unit that it gave away is back from its thread.
use Rattle.std.proofs.lemmas.Result.{err_from_is_err_and}
use Rattle.drain.proofs.Words.{arith, ◌∙◌}
use Rattle.drain.proofs.Duties.{back_still}
use Rattle.drain.proofs.Tokens.{of_leader, of_refused}
use Rattle.drain.proofs.worker_threads.fn.run_in_scope.scope.Goals as goal

pub returns : goal.returns
returns g c =
    let started = c.in_ok-started.ensures.started in
    let came = c.in_ok-back.ensures in
    let begun = c.captures.starting.leader in
    let leads = started.1.leads in
    let owed = came.back _ begun (λ k t below. started.1.owed k t (omega (arith, below, started.0))) in
    record {
      run = record {
        leads = leads;
        finished = started.1.finished;
        share = started.1.share;
        count = came.count ∙ started.0;
        back = λ k d below.
            back_still c.in_ok-started.started.leader leads.pool leads.setup (owed k d below);
      };
      of_pool = tt;
    }

-- the threads have a duty to the leader, which is of the job's pool
pub returns-in_err-back : goal.returns-in_err-back
returns-in_err-back g c =
    let started = c.in_ok-started.ensures.started in
    let begun = c.captures.starting.leader in
    let exit = err_from_is_err_and c.from_residual-in_err-back.result c.from_residual-in_err-back.ensures.1 in
    rw (exit.1, exit.2) (record {
      run = tt;
      of_pool =
          of_leader c.in_err-back.field-0.0 c.requires.may.pool
          (c.in_err-back.ensures.of_pool _ begun (λ k t below. started.1.owed k t (omega (arith, below, started.0))));
    })

-- a refused thread has no token of a spent tag
pub returns-in_err-started : goal.returns-in_err-started
returns-in_err-started g c =
    let exit = err_from_is_err_and c.from_residual.result c.from_residual.ensures.1 in
    rw (exit.1, exit.2) (record {
      run = tt;
      of_pool = of_refused _ c.in_err-started.field-0.0 c.in_err-started.ensures.refused;
    })
