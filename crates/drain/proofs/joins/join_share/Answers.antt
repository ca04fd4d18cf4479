-- Neither worker finished more objects than the graph has, so no sum overflows. The joined tally is that of the joined
-- list of finished objects.
use Rattle.drain.proofs.Words.{Book, Owner, ap, arith, sym, ◌∙◌}
use Rattle.drain.proofs.Leading.{joined_free, took_in}
use Rattle.drain.proofs.Scanning.{same_tally}
use Rattle.drain.proofs.Tallies.{tally_is_small}
use Rattle.drain.proofs.joins.join_share.Goals as goal

pub join-requires-clause-rows : goal.join-requires-clause-rows
join-requires-clause-rows g c = c.requires.tally.each ∙ sym c.requires.back.tally.each

pub join-requires-clause-small : goal.join-requires-clause-small
join-requires-clause-small g c =
    tally_is_small c.requires.measure c.recall_few_finished.ensures.few c.requires.tally

pub join-requires-clause-others : goal.join-requires-clause-others
join-requires-clause-others g c =
    let few = rw c.requires.back.setup at c.recall_few_finished-2.ensures.few in
    tally_is_small c.requires.measure few c.requires.back.tally

pub returns-clause-leads : goal.returns-clause-leads
returns-clause-leads g c =
    let pool = ap (λ (h : Owner). h.pool) c.join-worker.ensures.together in
    let book = ap (λ (h : Owner). h.book) c.join-worker.ensures.together in
    took_in c.args.leader.worker c.args.back.worker c.join-worker.result pool book c.requires.back.free

pub returns-clause-free : goal.returns-clause-free
returns-clause-free g c =
    let book = ap (λ (h : Owner). h.book) c.join-worker.ensures.together in
    joined_free c.args.leader.worker c.args.back.worker c.join-worker.result book c.requires.free c.requires.back.free

pub returns-clause-share : goal.returns-clause-share
returns-clause-share g c =
    let book = ap (λ (h : Owner). h.book) c.join-worker.ensures.together in
    omega (arith, ap (λ (b : Book). b.account.share) book, c.requires.back.share)

pub returns-clause-tally : goal.returns-clause-tally
returns-clause-tally g c =
    let m = g.V.Measured.measure c.args.graph.now in
    let leader = c.args.leader.worker.book.account.finished in
    let back = c.args.back.worker.book.account.finished in
    let both = c.join.ensures m leader back c.requires.tally c.requires.back.tally in
    same_tally (ap (λ (h : Owner). h.book.account.finished) c.join-worker.ensures.together) both
