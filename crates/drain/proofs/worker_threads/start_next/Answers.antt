-- The popped tally is of no object, and its worker has finished none. The thread's duty begins with a worker that was
-- just split off.
use Rattle.drain.proofs.Words.{Book, Owner, MayWork, Tallies, [], ap, arith, length, option_to_list, rules, ◌++◌, ◌∙◌}
use Rattle.drain.proofs.Each.{last_holds, left_hold}
use Rattle.drain.proofs.Leading.{new_awake, new_free}
use Rattle.drain.proofs.Scanning.{same_setup, same_tally}
use Rattle.drain.proofs.Starting.{one_more_started}
use Rattle.drain.proofs.worker_threads.start_next.Goals as goal

pub start-requires-clause-may : goal.start-requires-clause-may
start-requires-clause-may g c =
    let m = g.V.Measured.measure c.args.job.now.graph.now in
    let tally = c.in-Some.tally in
    let left = c.pop.new.self.items in
    let is = c.pop.ensures.items ∙ ap (λ r. left ++ option_to_list r) c.in-Some.is in
    let none = last_holds (Tallies m []) c.args.starting.tallies.items left tally is c.requires.tallies.1 in
    let worker = c.split-leader.result.1 in
    let pool = ap (λ (h : Owner). h.pool) c.split-leader.ensures.second in
    let book = ap (λ (h : Owner). h.book) c.split-leader.ensures.second in
    let may : MayWork g.V.Edges.count g.V.Edges.roots g.V.Edges.pairs g.V.Measured.measure c.args.job.now worker tally =
    record {
      pool = pool ∙ c.requires.pool;
      setup = same_setup (ap (λ (b : Book). b.setup) book) c.requires.setup;
      free = new_free worker c.args.starting.leader.book.setup 1 book;
      awake = new_awake worker c.args.starting.leader.book.setup book;
      tally = same_tally (ap (λ (b : Book). b.account.finished) book) none;
    } in
    search (rules, may)

pub returns : goal.returns
returns g c =
    let was = c.args.starting in
    let split = c.split-leader in
    let owes = c.in_ok-thread.ensures in
    let pushed = c.push_reserved in
    let m = g.V.Measured.measure c.args.job.now.graph.now in
    let left = c.pop.new.self.items in
    let is = c.pop.ensures.items ∙ ap (λ r. left ++ option_to_list r) c.in-Some.is in
    record {
      started = λ begun enough long so_far. one_more_started so_far enough (omega (arith, was.threads.ok, long))
          pushed.ensures.items split.ensures.first split.ensures.second owes.owes owes.graph;
      room = (omega (arith, pushed.ensures.len), omega (arith, pushed.ensures.capacity));
      tallies = (
        omega (arith, c.pop.ensures.len, ap (λ r. length (option_to_list r)) c.in-Some.is),
        left_hold (Tallies m []) was.tallies.items left c.in-Some.tally is c.requires.tallies.1,
      );
      refused = tt;
    }
