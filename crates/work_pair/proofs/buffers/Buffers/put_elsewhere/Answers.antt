-- After the two buffers exchanged positions, the object goes into the former second one, or into an empty one that was
-- popped.
use Rattle.std.proofs.Common.{refl, inl, inr, sym, ◌∙◌}
use Rattle.std.proofs.lemmas.Bool.{false≢true}
use Rattle.std.proofs.lemmas.Result.{err_from_is_err_and}
use Rattle.work_pair.proofs.Calls.{may_renew_second, put_told, put_refused, put_stopped}
use Rattle.work_pair.proofs.Locals.{local_again, put_first, swapped}
use Rattle.work_pair.proofs.Trading.{still}
use Rattle.work_pair.proofs.buffers.Buffers.put_elsewhere.Goals as goal

pub returns-then-put_at : goal.returns-then-put_at
returns-then-put_at g c =
    let put = c.if-put_at.ensures.put in
    record {
      pool = refl;
      puts = (
        still (local_again (swapped c.swap.ensures.x_after c.swap.ensures.y_after) (put_first put.1 put.2))
            c.requires.may.backed.sized,
        c.requires.may.third,
        λ pop. pop,
        inl (inr (rw c.swap.ensures.x_after at c.if-put_at.ensures.had_room), refl),
      );
      room = λ has. (refl, refl);
      of_pool = tt;
    }

pub renew-requires : goal.renew-requires
renew-requires g c = rw (c.if-put_at.ensures.full, c.swap.ensures.x_after) (may_renew_second c.requires.may)

pub returns-in_err-renew : goal.returns-in_err-renew
returns-in_err-renew g c =
    let p = err_from_is_err_and c.from_residual.result c.from_residual.ensures.1 in
    rw (p.1, p.2)
    (record {
      pool = c.renew.ensures.pool;
      puts = put_stopped c.requires.may (c.if-put_at.ensures.full ∙ c.swap.ensures.x_after) c.swap.ensures.y_after
          c.renew.new.position c.renew.new.third c.renew.new.worker.book c.in_err-renew.field-0.0
          c.in_err-renew.ensures.renews;
      room = λ has. absurd (c.if-put_at.ensures.no_room (rw c.swap.ensures.x_after has));
      of_pool = c.in_err-renew.ensures.of_pool;
    })

pub returns-then-not-branch : goal.returns-then-not-branch
returns-then-not-branch g c =
    record {
      pool = c.renew.ensures.pool;
      puts = put_refused c.requires.may (c.if-put_at.ensures.full ∙ c.swap.ensures.x_after) c.swap.ensures.y_after
          c.renew.new.position c.renew.new.third c.renew.new.worker.book
          (rw c.if-not-branch.true at c.in_ok-renew.ensures.renews);
      room = λ has. absurd (c.if-put_at.ensures.no_room (rw c.swap.ensures.x_after has));
      of_pool = tt;
    }

pub returns : goal.returns
returns g c =
    let told = rw c.if-not-branch.false at c.in_ok-renew.ensures.renews in
    let fits = c.put_at-2.ensures.room told.4.0 told.4.2 (told.4.3 refl) in
    let put = rw fits at c.put_at-2.ensures.put in
    rw fits
    (record {
      pool = c.renew.ensures.pool;
      puts = put_told c.requires.may (c.if-put_at.ensures.full ∙ c.swap.ensures.x_after) c.swap.ensures.y_after
          c.renew.new.position c.renew.new.third c.renew.new.worker.book put.0 c.args.object c.put_at-2.new.position
          told put.1 put.2
          (λ k is none. false≢true
          (sym c.if-put_at.false ∙ c.put_at.ensures.room k (sym c.if-put_at.ensures.full ∙ is) none));
      room = λ has. absurd (c.if-put_at.ensures.no_room (rw c.swap.ensures.x_after has));
      of_pool = tt;
    })
