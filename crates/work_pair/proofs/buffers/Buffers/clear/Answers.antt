-- The positions are cleared in turn: a cleared position requires nothing more of the book, which still backs the
-- remaining positions.
use Rattle.std.proofs.Common.{◌∙◌}
use Rattle.std.proofs.lemmas.Result.{err_from_is_err_and}
use Rattle.work_pair.proofs.Clearing.{backed_then, first_busy, first_cleared, first_stuck, second_busy, second_cleared}
use Rattle.work_pair.proofs.Clearing.{second_stuck, third_busy, third_told}
use Rattle.work_pair.proofs.Trading.{first_backed, second_backed, third_backed}
use Rattle.work_pair.proofs.buffers.Buffers.clear.Goals as goal

pub clear_at-requires : goal.clear_at-requires
clear_at-requires g c =
    record {
      pool = c.requires.pool;
      backed = first_backed c.requires.backed;
      busy = first_busy c.requires.backed c.requires.busy;
    }

pub returns-in_err-clear_at-clause-clears : goal.returns-in_err-clear_at-clause-clears
returns-in_err-clear_at-clause-clears g c =
    let p = err_from_is_err_and c.from_residual.result c.from_residual.ensures.1 in
    rw (p.1, p.2)
    (first_stuck c.requires.backed c.requires.busy c.clear_at.new.position c.clear_at.new.worker.book
    c.in_err-clear_at.field-0.0 c.in_err-clear_at.ensures.clears)

pub clear_at-requires-2 : goal.clear_at-requires-2
clear_at-requires-2 g c =
    let first = first_cleared c.requires.backed c.requires.busy c.clear_at.new.position c.clear_at.new.worker.book
    c.in_ok-clear_at.field-0 c.in_ok-clear_at.ensures.clears in
    record {
      pool = c.clear_at.ensures.pool ∙ c.requires.pool;
      backed = second_backed (backed_then c.requires.backed c.requires.busy first.0);
      busy = second_busy c.requires.backed c.requires.busy first.0;
    }

pub returns-in_err-clear_at-2-clause-clears : goal.returns-in_err-clear_at-2-clause-clears
returns-in_err-clear_at-2-clause-clears g c =
    let n = c.clear_at.new.position in
    let mid = c.clear_at.new.worker.book in
    let first = first_cleared c.requires.backed c.requires.busy n mid c.in_ok-clear_at.field-0
    c.in_ok-clear_at.ensures.clears in
    let p = err_from_is_err_and c.from_residual-in_err-clear_at-2.result c.from_residual-in_err-clear_at-2.ensures.1 in
    rw (p.1, p.2)
    (second_stuck c.requires.backed c.requires.busy n mid c.clear_at-2.new.position c.clear_at-2.new.worker.book first
    c.in_err-clear_at-2.field-0.0 c.in_err-clear_at-2.ensures.clears)

pub clear_at-requires-3 : goal.clear_at-requires-3
clear_at-requires-3 g c =
    let n = c.clear_at.new.position in
    let mid = c.clear_at.new.worker.book in
    let first = first_cleared c.requires.backed c.requires.busy n mid c.in_ok-clear_at.field-0
    c.in_ok-clear_at.ensures.clears in
    let second = second_cleared c.requires.backed c.requires.busy n mid c.clear_at-2.new.position
    c.clear_at-2.new.worker.book first c.in_ok-clear_at-2.field-0 c.in_ok-clear_at-2.ensures.clears in
    record {
      pool = c.clear_at-2.ensures.pool ∙ c.clear_at.ensures.pool ∙ c.requires.pool;
      backed = third_backed (backed_then c.requires.backed c.requires.busy second.0);
      busy = third_busy c.requires.backed c.requires.busy second.0;
    }

pub returns-clause-clears : goal.returns-clause-clears
returns-clause-clears g c =
    let n = c.clear_at.new.position in
    let mid = c.clear_at.new.worker.book in
    let m = c.clear_at-2.new.position in
    let last = c.clear_at-2.new.worker.book in
    let first = first_cleared c.requires.backed c.requires.busy n mid c.in_ok-clear_at.field-0
    c.in_ok-clear_at.ensures.clears in
    let second = second_cleared c.requires.backed c.requires.busy n mid m last first c.in_ok-clear_at-2.field-0
    c.in_ok-clear_at-2.ensures.clears in
    third_told c.requires.backed c.requires.busy n mid m last second c.clear_at-3.new.position
    c.clear_at-3.new.worker.book c.clear_at-3.result c.in_ok-clear_at.ensures.clears.0
    c.in_ok-clear_at-2.ensures.clears.0 c.clear_at-3.ensures.clears
