-- If `answer` returns a refusal, nothing was written.
use Rattle.std.proofs.Common.{rules}
use Rattle.std.proofs.lemmas.Result.{err_from_is_err_and}
use Rattle.heapmark.proofs.pipeline.report_bytes.Goals as goal

pub returns-in_err-report : goal.returns-in_err-report
returns-in_err-report g c =
    let exit = err_from_is_err_and c.from_residual.result c.from_residual.ensures.1 in
    let known = c.in_err-report.ensures.known in
    rw exit.1 (rw exit.2 (search (rules, c.in_err-report.ensures.refusal, known)))
