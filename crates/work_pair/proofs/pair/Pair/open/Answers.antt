-- Two popped buffers are the pair. A single one is pushed back, and then the worker has what it had before.
use Rattle.std.proofs.Common.{Ok, None, Some, ◌∙◌}
use Rattle.std.proofs.lemmas.Result.{err_from_is_err_and}
use Rattle.mark_core.specs.declared.which.Which.TheVariants.{Empty}
use Rattle.work_pair.specs.working.Steps.{PopsOne}
use Rattle.work_pair.proofs.Opening.{back_backed, back_busy, back_stopped, both_taken, first_missing, first_stopped}
use Rattle.work_pair.proofs.Opening.{first_unfound, gave_back, given_back, one_busy, opens_two, second_stopped}
use Rattle.work_pair.proofs.pair.Pair.open.Given as given
use Rattle.work_pair.proofs.pair.Pair.open.Goals.{In-Some, In_default, In_default-2}
use Rattle.work_pair.proofs.pair.Pair.open.Goals as goal

-- the results of the first pop and of the second
missing_first :
    (g : given.Over) (c : In_default g) → PopsOne Empty c.args.worker.now.book c.pop_one.new.worker.book (Ok None)
missing_first g c = rw c.in_default.is at c.in_ok-first.ensures.pops

took_first :
    (g : given.Over) (c : In-Some g)
    → PopsOne Empty c.args.worker.now.book c.pop_one.new.worker.book (Ok (Some c.in-Some.first))
took_first g c = rw c.in-Some.is at c.in_ok-first.ensures.pops

missing_second :
    (g : given.Over) (c : In_default-2 g)
    → PopsOne Empty c.pop_one.new.worker.book c.pop_one-2.new.worker.book (Ok None)
missing_second g c = rw c.in_default-2.is at c.in_ok-second.ensures.pops

pub returns-in_err-first-clause-spent : goal.returns-in_err-first-clause-spent
returns-in_err-first-clause-spent g c =
    let p = err_from_is_err_and c.from_residual.result c.from_residual.ensures.1 in
    rw (p.1, p.2) (first_stopped c.args.worker.now.book c.pop_one.new.worker.book c.in_err-first.field-0.0
    c.in_err-first.ensures.pops)

pub returns-in_default-clause-none : goal.returns-in_default-clause-none
returns-in_default-clause-none g c =
    first_missing c.args.worker.now.book c.pop_one.new.worker.book
    (missing_first g (goal.at.returns-in_default-clause-none g c).In_default)

pub returns-in_default-clause-not_found : goal.returns-in_default-clause-not_found
returns-in_default-clause-not_found g c =
    first_unfound c.args.worker.now.book c.pop_one.new.worker.book
    (missing_first g (goal.at.returns-in_default-clause-not_found g c).In_default)

pub pop_one-requires-2-clause-busy : goal.pop_one-requires-2-clause-busy
pop_one-requires-2-clause-busy g c =
    one_busy c.args.worker.now.book c.in-Some.first c.pop_one.new.worker.book
    (took_first g (goal.at.pop_one-requires-2-clause-busy g c).In-Some) c.requires.busy

pub returns-in_err-second-clause-spent : goal.returns-in_err-second-clause-spent
returns-in_err-second-clause-spent g c =
    let p = err_from_is_err_and c.from_residual-in_err-second.result c.from_residual-in_err-second.ensures.1 in
    rw (p.1, p.2)
    (second_stopped c.args.worker.now.book c.in-Some.first c.pop_one.new.worker.book
    (took_first g (goal.at.returns-in_err-second-clause-spent g c).In-Some) c.pop_one-2.new.worker.book
    c.in_err-second.field-0.0 c.in_err-second.ensures.pops)

pub returns-in-Some-2-clause-opened : goal.returns-in-Some-2-clause-opened
returns-in-Some-2-clause-opened g c =
    rw c.of.ensures
    (both_taken c.args.worker.now.book c.in-Some.first c.pop_one.new.worker.book
    (took_first g (goal.at.returns-in-Some-2-clause-opened g c).In-Some) c.in-Some-2.second c.pop_one-2.new.worker.book
    (rw c.in-Some-2.is at c.in_ok-second.ensures.pops))

pub returns-in-Some-2-clause-two : goal.returns-in-Some-2-clause-two
returns-in-Some-2-clause-two g c =
    rw c.of.ensures
    (opens_two c.args.worker.now.book c.in-Some.first c.pop_one.new.worker.book
    (took_first g (goal.at.returns-in-Some-2-clause-two g c).In-Some) c.in-Some-2.second c.pop_one-2.new.worker.book
    (rw c.in-Some-2.is at c.in_ok-second.ensures.pops))

pub clear_at-requires : goal.clear_at-requires
clear_at-requires g c =
    let b = c.args.worker.now.book in
    let mid = c.pop_one.new.worker.book in
    let last = c.pop_one-2.new.worker.book in
    let took = took_first g (goal.at.clear_at-requires g c).In-Some in
    let missing = missing_second g (goal.at.clear_at-requires g c).In_default-2 in
    record {
      pool = c.pop_one-2.ensures.pool ∙ c.pop_one.ensures.pool ∙ c.requires.pool;
      backed = back_backed b c.in-Some.first mid took last missing;
      busy = λ some. back_busy b c.in-Some.first mid took last missing c.requires.busy;
    }

pub returns-in_err-clear_at-clause-spent : goal.returns-in_err-clear_at-clause-spent
returns-in_err-clear_at-clause-spent g c =
    let at = goal.at.returns-in_err-clear_at-clause-spent g c in
    let p = err_from_is_err_and c.from_residual-in_err-clear_at.result c.from_residual-in_err-clear_at.ensures.1 in
    rw (p.1, p.2)
    (back_stopped c.args.worker.now.book c.in-Some.first c.pop_one.new.worker.book (took_first g at.In-Some)
    c.pop_one-2.new.worker.book (missing_second g at.In_default-2) c.clear_at.new.position c.clear_at.new.worker.book
    c.in_err-clear_at.field-0.0 c.in_err-clear_at.ensures.clears)

pub returns-clause-none : goal.returns-clause-none
returns-clause-none g c =
    let at = goal.at.returns-clause-none g c in
    given_back c.args.worker.now.book c.in-Some.first c.pop_one.new.worker.book (took_first g at.In-Some)
    c.pop_one-2.new.worker.book (missing_second g at.In_default-2) c.clear_at.new.position c.clear_at.new.worker.book
    c.in_ok-clear_at.field-0 c.in_ok-clear_at.ensures.clears

pub returns-clause-not_found : goal.returns-clause-not_found
returns-clause-not_found g c =
    let at = goal.at.returns-clause-not_found g c in
    gave_back c.args.worker.now.book c.in-Some.first c.pop_one.new.worker.book (took_first g at.In-Some)
    c.pop_one-2.new.worker.book (missing_second g at.In_default-2) c.clear_at.new.position c.clear_at.new.worker.book
    c.in_ok-clear_at.field-0 c.in_ok-clear_at.ensures.clears
