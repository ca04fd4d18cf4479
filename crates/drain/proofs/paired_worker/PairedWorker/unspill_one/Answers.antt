-- What was got from the list is put again, and the worker has at hand what it had.
use Rattle.drain.proofs.Words.{Owner, Some, [], ap, rules, sym, ◌∙◌, ◌∷◌}
use Rattle.std.proofs.lemmas.Option.{same_Some}
use Rattle.drain.proofs.AtHand.{at_work_after, backs, goes_on_after, goes_on_again, is_put}
use Rattle.drain.proofs.Outcomes.{at_some}
use Rattle.drain.proofs.Giving.{last_of, puts_again, same_answer, spilled_items}
use Rattle.drain.proofs.paired_worker.PairedWorker.unspill_one.Goals as goal

pub get-requires : goal.get-requires
get-requires g c =
    let at_work = c.requires.at_work in
    record {
      pool = c.requires.pool;
      going = at_work.hand.going;
      backed = backs [] [] at_work.hand;
      busy = at_work.busy;
    }

pub put-requires-clause-backed : goal.put-requires-clause-backed
put-requires-clause-backed g c =
    let old = c.args.self.now.worker in
    let got = c.get.new.worker in
    let o = c.in-Some.object in
    let effect = at_some _ _ o c.in_ok-object.ensures.got c.in-Some.is in
    let at_work = at_work_after old got effect [] c.in_ok-object.ensures.going c.requires.at_work in
    backs (o ∷ []) [] at_work.hand

pub unreachable-requires : goal.unreachable-requires
unreachable-requires g c =
    let last = last_of c.args.self.now.pair.spill c.requires.some in
    let told = c.in_ok-object.ensures.last last.1 last.0 last.2 in
    c.in_default.not-Some last.1 (same_answer c.in_ok-object.field-0 (Some last.1) told.0)

pub returns-in-Ok-clause-goes_on : goal.returns-in-Ok-clause-goes_on
returns-in-Ok-clause-goes_on g c =
    let got = c.in_ok-object.ensures in
    let puts = c.in-Ok.ensures in
    let effect = at_some _ _ c.in-Some.object got.got c.in-Some.is in
    goes_on_again (goes_on_after c.args.self.now.worker c.get.new.worker effect got.pool)
    (goes_on_after c.get.new.worker c.put.new.worker puts.put.0 puts.pool)

pub returns-in-Ok-clause-at_work : goal.returns-in-Ok-clause-at_work
returns-in-Ok-clause-at_work g c =
    let got = c.in_ok-object.ensures in
    let puts = c.in-Ok.ensures in
    let effect = at_some _ _ c.in-Some.object got.got c.in-Some.is in
    let at_work = at_work_after c.args.self.now.worker c.get.new.worker effect [] got.going c.requires.at_work in
    (is_put c.get.new.worker c.put.new.worker puts.pool puts.put.0 puts.going).at_work [] at_work

pub returns-in-Ok-clause-again : goal.returns-in-Ok-clause-again
returns-in-Ok-clause-again g c =
    let old = c.args.self.now in
    let got = c.in_ok-object.ensures in
    let object = c.in-Some.object in
    let kept = got.own (spilled_items old.pair c.requires.some) in
    puts_again old.pair c.get.new.self c.put.new.self old.worker.book c.get.new.worker.book c.put.new.worker.book object
    c.requires.some
    (λ o rest is.
    let told = got.last o rest is in
    (same_Some object o (sym c.in-Some.is ∙ same_answer c.in_ok-object.field-0 (Some o) told.0), told.1))
    (ap (λ (w : Owner). w.book) kept.0) c.in-Ok.ensures.put

pub returns-in-Ok-clause-fewer : goal.returns-in-Ok-clause-fewer
returns-in-Ok-clause-fewer g c = rw c.spilled.ensures (rw c.spilled-spilled.ensures (search rules))
