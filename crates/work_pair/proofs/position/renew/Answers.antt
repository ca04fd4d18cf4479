-- A pop keeps what is required of the position, so its buffer may be pushed, and the popped one takes its place.
use Rattle.std.proofs.Common.{false, refl, Some, Ok, ◌∙◌}
use Rattle.std.proofs.lemmas.Result.{err_from_is_err_and}
use Rattle.mark_core.specs.declared.which.Which.TheVariants.{Empty}
use Rattle.work_pair.specs.working.Steps.{PopsOne}
use Rattle.work_pair.proofs.Renewing.{found_nothing, put_out_done, put_out_stopped, still_backed, still_busy}
use Rattle.work_pair.proofs.Renewing.{stopped_at_once}
use Rattle.work_pair.proofs.position.renew.Given as given
use Rattle.work_pair.proofs.position.renew.Goals.{In-Some}
use Rattle.work_pair.proofs.position.renew.Goals as goal

popped :
    (g : given.Over) (c : In-Some g)
    → PopsOne Empty c.args.worker.now.book c.pop_one.new.worker.book (Ok (Some c.in-Some.next))
popped g c = rw c.in-Some.is at c.in_ok-next.ensures.pops

pub returns-in_err-next-clause-renews : goal.returns-in_err-next-clause-renews
returns-in_err-next-clause-renews g c =
    let p = err_from_is_err_and c.from_residual.result c.from_residual.ensures.1 in
    rw (p.1, p.2)
    (stopped_at_once c.requires false c.pop_one.new.worker.book c.in_err-next.field-0.0 c.in_err-next.ensures.pops)

pub returns-in_default-clause-renews : goal.returns-in_default-clause-renews
returns-in_default-clause-renews g c =
    found_nothing c.requires false c.pop_one.new.worker.book (rw c.in_default.is at c.in_ok-next.ensures.pops)

pub put_out-requires : goal.put_out-requires
put_out-requires g c =
    let mid = c.pop_one.new.worker.book in
    let next = c.in-Some.next in
    let took = popped g (goal.at.put_out-requires g c).In-Some in
    record {
      same = c.pop_one.ensures.pool ∙ c.requires.same;
      vacant = c.requires.vacant;
      backed = still_backed false Empty next mid c.requires.backed took (λ half. refl);
      busy = still_busy Empty next c.args.worker.now.book mid took c.requires.busy;
    }

pub returns-in_err-put_out-clause-renews : goal.returns-in_err-put_out-clause-renews
returns-in_err-put_out-clause-renews g c =
    let n = c.put_out.new in
    let p = err_from_is_err_and c.from_residual-in_err-put_out.result c.from_residual-in_err-put_out.ensures.1 in
    rw (p.1, p.2)
    (put_out_stopped false Empty c.in-Some.next c.pop_one.new.worker.book c.requires.backed
    (popped g (goal.at.returns-in_err-put_out-clause-renews g c).In-Some)
    (λ half. refl) n.position n.third n.worker.book
    c.in_err-put_out.field-0.0 c.in_err-put_out.ensures.out)

pub returns-clause-renews : goal.returns-clause-renews
returns-clause-renews g c =
    let n = c.put_out.new in
    put_out_done false Empty c.in-Some.next c.pop_one.new.worker.book c.requires.backed
    (popped g (goal.at.returns-clause-renews g c).In-Some) (λ half. refl) n.position n.third n.worker.book
    c.in_ok-put_out.field-0 c.in_ok-put_out.ensures.out
