-- A turn that finds no object pops a buffer from the full stack into a pair without objects: this adds one trade to
-- those before.
use Rattle.std.proofs.Common.{◌≡◌, ◌≢◌, [], Ok, Some, refl, ◌∙◌}
use Rattle.std.proofs.lemmas.Result.{err_from_is_err_and}
use Rattle.mark_core.specs.declared.which.Which.TheVariants.{Full}
use Rattle.work_pair.specs.PairState.{pair_items}
use Rattle.work_pair.specs.working.Buffers.{as_pair}
use Rattle.work_pair.specs.working.Steps.{PopsOne}
use Rattle.work_pair.proofs.Getting.{all_taken, got, may_put_out, none_got, pop_stopped, put_stopped, turned}
use Rattle.work_pair.proofs.Trading.{busy_then, untouched}
use Rattle.work_pair.proofs.buffers.Buffers.get_elsewhere.Given as given
use Rattle.work_pair.proofs.buffers.Buffers.get_elsewhere.Goals.{In-Some-2, In_default}
use Rattle.work_pair.proofs.buffers.Buffers.get_elsewhere.Goals as goal

pub loop-init : goal.loop-init
loop-init g c =
    record {
      pool = refl;
      third = c.requires.third;
      trades = (untouched c.requires.backed.sized, [], (refl, refl, refl));
      own = λ some. (refl, some);
    }

-- if the look found no object, the pair has none
nothing_left : (g : given.Over) (c : In_default g) → pair_items (as_pair c.loop.self) ≡ []
nothing_left g c = all_taken c.loop.self c.take.new.self c.in_default.ensures c.loop.invariant.third

-- so if the pair had objects at first, no buffer was popped
none_own : (g : given.Over) (c : In_default g) → pair_items (as_pair c.args.self.now) ≢ [] → {P : Type 0} → P
none_own g c some = absurd ((c.loop.invariant.own some).1 (nothing_left g c))

popped :
    (g : given.Over) (c : In-Some-2 g)
    → PopsOne Full c.loop.worker.book c.pop_one.new.worker.book (Ok (Some c.in-Some-2.next))
popped g c = rw c.in-Some-2.is at c.in_ok-next.ensures.pops

pub returns-in-Some-take : goal.returns-in-Some-take
returns-in-Some-take g c =
    let so_far = c.loop.invariant in
    record {
      pool = so_far.pool;
      gets = got c.requires.backed c.loop.self so_far.trades.0 so_far.third so_far.trades.1 so_far.trades.2
          c.take.new.self c.in-Some-take.object c.in-Some-take.ensures;
      own = λ some. ((so_far.own some).0, refl);
      of_pool = tt;
    }

pub pop_one-requires-clause-busy : goal.pop_one-requires-clause-busy
pop_one-requires-clause-busy g c = busy_then c.loop.invariant.trades.0 c.requires.busy

pub returns-in_err-next : goal.returns-in_err-next
returns-in_err-next g c =
    let so_far = c.loop.invariant in
    let p = err_from_is_err_and c.from_residual.result c.from_residual.ensures.1 in
    rw (p.1, p.2)
    (record {
      pool = c.pop_one.ensures.pool ∙ so_far.pool;
      gets = pop_stopped c.requires.backed c.loop.self so_far.trades.0 so_far.third c.take.new.self
          c.in_default.ensures c.pop_one.new.worker.book c.in_err-next.field-0.0 c.in_err-next.ensures.pops;
      own = λ some. none_own g (goal.at.returns-in_err-next g c).In_default some;
      of_pool = c.in_err-next.ensures.of_pool;
    })

pub returns-in_default-2 : goal.returns-in_default-2
returns-in_default-2 g c =
    let so_far = c.loop.invariant in
    record {
      pool = c.pop_one.ensures.pool ∙ so_far.pool;
      gets = none_got c.requires.backed c.loop.self so_far.trades.0 so_far.third c.take.new.self c.in_default.ensures
          so_far.trades.1 so_far.trades.2 c.pop_one.new.worker.book
          (rw c.in_default-2.is at c.in_ok-next.ensures.pops);
      own = λ some. none_own g (goal.at.returns-in_default-2 g c).In_default some;
      of_pool = tt;
    }

pub put_out-requires : goal.put_out-requires
put_out-requires g c =
    let so_far = c.loop.invariant in
    may_put_out c.requires.backed c.loop.self so_far.trades.0 so_far.third c.take.new.self c.in_default.ensures
    c.in-Some-2.next c.pop_one.new.worker.book (popped g (goal.at.put_out-requires g c).In-Some-2) c.pop_one.new.worker
    c.args.pool.now (c.pop_one.ensures.pool ∙ so_far.pool ∙ c.requires.same) refl c.requires.busy

pub loop-preserved : goal.loop-preserved
loop-preserved g c =
    let so_far = c.loop.invariant in
    let both =
    turned c.requires.backed c.loop.self so_far.trades.0 so_far.third c.take.new.self c.in_default.ensures
    c.in-Some-2.next c.pop_one.new.worker.book (popped g (goal.at.loop-preserved g c).In-Some-2) c.put_out.new.position
    c.put_out.new.third c.put_out.new.worker.book so_far.trades.1 so_far.trades.2 c.in_ok-put_out.field-0
    c.in_ok-put_out.ensures.out in
    record {
      pool = c.put_out.ensures.pool ∙ c.pop_one.ensures.pool ∙ so_far.pool;
      third = both.1;
      trades = both.0;
      own = λ some. none_own g (goal.at.loop-preserved g c).In_default some;
    }

pub returns-in_err-put_out : goal.returns-in_err-put_out
returns-in_err-put_out g c =
    let so_far = c.loop.invariant in
    let at = goal.at.returns-in_err-put_out g c in
    let p = err_from_is_err_and c.from_residual-in_err-put_out.result c.from_residual-in_err-put_out.ensures.1 in
    rw (p.1, p.2)
    (record {
      pool = c.put_out.ensures.pool ∙ c.pop_one.ensures.pool ∙ so_far.pool;
      gets = put_stopped c.requires.backed c.loop.self so_far.trades.0 so_far.third c.take.new.self
          c.in_default.ensures c.in-Some-2.next c.pop_one.new.worker.book (popped g at.In-Some-2) c.put_out.new.position
          c.put_out.new.third c.put_out.new.worker.book c.in_err-put_out.field-0.0 c.in_err-put_out.ensures.out;
      own = λ some. none_own g at.In_default some;
      of_pool = c.in_err-put_out.ensures.of_pool;
    })
