-- What `run_in_scope` requires is among what this call requires.
use Rattle.drain.proofs.Scanning.{same_tally}
use Rattle.drain.proofs.worker_threads.run_workers.Goals as goal

pub run_in_scope-requires-clause-may : goal.run_in_scope-requires-clause-may
run_in_scope-requires-clause-may g c κs within =
    let asked = c.requires in
    record {
      pool = asked.pool;
      setup = asked.setup;
      share = asked.share;
      none = asked.room.0;
      room = asked.room.1;
      none_back = asked.back.0;
      room_back = asked.back.1;
      enough = asked.tallies.0;
      tallies_of_none = asked.tallies.1;
    }

pub returns-clause-tally : goal.returns-clause-tally
returns-clause-tally g c = same_tally c.in_ok-worker.ensures.run.finished c.requires.tally
