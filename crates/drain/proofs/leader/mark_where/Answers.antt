-- The leader that closes the pool saw all roots and is free, so what the close says of marks and tally is the result.
use Rattle.std.proofs.lemmas.Result.{err_from_is_err_and}
use Rattle.drain.proofs.Words.{Book, IsMarkingOf, MarkedObjects, Setup, ap, arith, object_count, rules, subst, sym, ◌∙◌}
use Rattle.mark_core.specs.Shares.{whole}
use Rattle.buffer_pool.specs.Faults.{Refuses}
use Rattle.buffer_pool.specs.Ranges.{IsInside}
use Rattle.drain.specs.ExactlyReachable.{ExactlyReachable}
use Rattle.drain.proofs.Closes.{exactly_marked, opened_setup}
use Rattle.drain.proofs.Markings.{marking_of}
use Rattle.drain.proofs.Tokens.{of_same_tag}
use Rattle.drain.proofs.leader.mark_where.Goals as goal

pub unreachable-requires : goal.unreachable-requires
unreachable-requires g c =
    let allowed = c.workers-workers.ensures.allowed in
    let inside = IsInside (object_count c.args.graph.now) c.buffers.result c.buffer.result c.first_tag.result in
    let refused = subst (Refuses inside) c.in-Err-BadOptions.field-0-is c.in-Err-BadOptions.ensures in
    refused (record {
      objects = c.len-objects.ensures.whole.few_objects;
      few = omega (arith, c.buffers.ensures, allowed.least_buffers);
      many = omega (arith, c.buffers.ensures, allowed.most_buffers);
      small = omega (arith, c.buffer.ensures, allowed.least_buffer);
      large = omega (arith, c.buffer.ensures, allowed.largest_buffer);
      tag = omega (arith, c.first_tag.ensures, allowed.last_tag);
    })

pub lead-requires-clause-none : goal.lead-requires-clause-none
lead-requires-clause-none g c =
    let none = ap (λ (b : Book). b.account.finished) c.in-Ok.ensures.2 in
    search (rules, none)

pub returns : goal.returns
returns g c =
    let graph = c.args.graph.now in
    let leader = c.in-Ok.opened.1 in
    let setup =
    opened_setup graph c.buffers.result c.buffer.result c.first_tag.result whole leader.book c.in-Ok.ensures.2 in
    let worker = c.in_ok-tallied.tallied.worker in
    let tally = c.in_ok-tallied.tallied.tally in
    let led = c.in_ok-tallied.ensures.led in
    let objects = ap (λ (e : Setup). e.objects) led.setup ∙ setup.objects in
    let last = c.close.ensures.0.last in
    let exact =
    exactly_marked graph leader.book.setup setup worker last c.close.result led.setup led.free.open_push led.saw
    c.close.ensures.1 in
    let made =
    marking_of graph worker.book last c.close.result c.close.ensures.1 led.free.open_push objects
    c.len-objects.ensures.whole tally.rows.items tally.unresolved c.in_ok-tallied.ensures.tally in
    record {
      exactly_reachable = subst (λ (m : MarkedObjects). ExactlyReachable graph m.marks) (sym c.new-2.ensures) exact;
      made = subst (IsMarkingOf graph) (sym c.new-2.ensures) made;
      of_options = tt;
    }

pub new-requires-2-clause-finished : goal.new-requires-2-clause-finished
new-requires-2-clause-finished g c = c.close.ensures.1.emptied c.in_ok-tallied.ensures.led.free.open_push

-- the pool began with the first tag of the options
pub returns-in_err-tallied-clause-of_options : goal.returns-in_err-tallied-clause-of_options
returns-in_err-tallied-clause-of_options g c =
    let exit = err_from_is_err_and c.from_residual.result c.from_residual.ensures.1 in
    rw (exit.1, exit.2)
    (of_same_tag c.in_err-tallied.field-0.0 (c.in-Ok.ensures.4 ∙ c.first_tag.ensures) c.in_err-tallied.ensures.of_pool)
