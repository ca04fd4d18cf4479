-- The popped buffer has no items, and takes the upper half. The lower part stays at the position, and is pushed.
use Rattle.std.proofs.Common.{true, refl, subst, Err, Option, Some, Ok, ◌∙◌}
use Rattle.std.proofs.lemmas.Result.{err_from_is_err_and}
use Rattle.mark_core.specs.declared.which.Which.TheVariants.{Empty}
use Rattle.buffer_pool.specs.Calls.{HeldBuffer}
use Rattle.work_pair.specs.working.Steps.{PopsOne, PutsOut, pushed_part}
use Rattle.work_pair.proofs.Renewing.{found_nothing, put_out_done, put_out_stopped, still_backed, still_busy}
use Rattle.work_pair.proofs.Renewing.{stopped_at_once, took_size}
use Rattle.work_pair.proofs.position.halve.Given as given
use Rattle.work_pair.proofs.position.halve.Goals.{In-Some}
use Rattle.work_pair.proofs.position.halve.Goals as goal

popped :
    (g : given.Over) (c : In-Some g)
    → PopsOne Empty c.args.worker.now.book c.pop_one.new.worker.book (Ok (Some c.in-Some.upper))
popped g c = rw c.in-Some.is at c.in_ok-upper.ensures.pops

pub returns-in_err-upper-clause-renews : goal.returns-in_err-upper-clause-renews
returns-in_err-upper-clause-renews g c =
    let p = err_from_is_err_and c.from_residual.result c.from_residual.ensures.1 in
    rw (p.1, p.2)
    (stopped_at_once c.requires true c.pop_one.new.worker.book c.in_err-upper.field-0.0 c.in_err-upper.ensures.pops)

pub returns-in_default-clause-renews : goal.returns-in_default-clause-renews
returns-in_default-clause-renews g c =
    found_nothing c.requires true c.pop_one.new.worker.book (rw c.in_default.is at c.in_ok-upper.ensures.pops)

pub split_at-requires : goal.split_at-requires
split_at-requires g c =
    let took = popped g (goal.at.split_at-requires g c).In-Some in
    let same = took_size Empty c.in-Some.upper c.args.worker.now.book c.pop_one.new.worker.book took in
    record { empty = took.2.6 refl; room = rw same c.requires.backed.sized }

pub put_out-requires : goal.put_out-requires
put_out-requires g c =
    let mid = c.pop_one.new.worker.book in
    let upper = c.in-Some.upper in
    let took = popped g (goal.at.put_out-requires g c).In-Some in
    record {
      same = c.pop_one.ensures.pool ∙ c.requires.same;
      vacant = c.requires.vacant;
      backed = rw c.split_at.ensures.lower (still_backed true Empty upper mid c.requires.backed took (λ half. refl));
      busy = still_busy Empty upper c.args.worker.now.book mid took c.requires.busy;
    }

pub returns-in_err-put_out-clause-renews : goal.returns-in_err-put_out-clause-renews
returns-in_err-put_out-clause-renews g c =
    let n = c.put_out.new in
    let mid = c.pop_one.new.worker.book in
    let stop = c.in_err-put_out.field-0.0 in
    let split = c.split_at.ensures in
    let lower = pushed_part true c.args.position.now in
    let p = err_from_is_err_and c.from_residual-in_err-put_out.result c.from_residual-in_err-put_out.ensures.1 in
    rw (p.1, p.2)
    (put_out_stopped true Empty c.in-Some.upper mid c.requires.backed
    (popped g (goal.at.returns-in_err-put_out-clause-renews g c).In-Some)
    (λ half. refl) n.position n.third n.worker.book
    stop
    (subst (λ (k : HeldBuffer). PutsOut lower k mid n.position n.third n.worker.book (Err stop)) split.upper
    (subst (λ (x : Option HeldBuffer). PutsOut x c.split_at.new.upper mid n.position n.third n.worker.book (Err stop))
    split.lower c.in_err-put_out.ensures.out)))

pub returns-clause-renews : goal.returns-clause-renews
returns-clause-renews g c =
    let n = c.put_out.new in
    put_out_done true Empty c.in-Some.upper c.pop_one.new.worker.book c.requires.backed
    (popped g (goal.at.returns-clause-renews g c).In-Some) (λ half. refl) n.position n.third n.worker.book
    c.in_ok-put_out.field-0 (rw (c.split_at.ensures.lower, c.split_at.ensures.upper) at c.in_ok-put_out.ensures.out)
