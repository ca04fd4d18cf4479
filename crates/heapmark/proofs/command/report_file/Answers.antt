-- The reader's bytes are those of the file, if these are known.
use Rattle.std.proofs.Common.{subst}
use Rattle.drain.specs.Options.{Choice}
use Rattle.heapmark.specs.Causes.{HasCause}
use Rattle.heapmark.proofs.OfFile.{of_run, written}
use Rattle.heapmark.proofs.command.report_file.Goals as goal
use Rattle.heapmark.specs.working.NoReport.{list_of}

pub returns-in-Ok-run-clause-of_file : goal.returns-in-Ok-run-clause-of_file
returns-in-Ok-run-clause-of_file g c =
    written (g.T.Dumps.bytes_at c.args.rt.now c.args.arguments.now.file.now) _ (list_of c.args.arguments.now) _ _ _
    c.in-Ok-open_dump.ensures.bytes c.in-Ok-skip_of.ensures.list c.in-Ok-run.ensures.headline

pub returns-clause-told : goal.returns-clause-told
returns-clause-told g c =
    of_run (g.T.Dumps.bytes_at c.args.rt.now c.args.arguments.now.file.now) _ _ _ c.in-Err-run.refusal
    c.in-Ok-open_dump.ensures.bytes c.in-Err-run.ensures.known c.in-Err-run.ensures.first_fault
    c.in-Err-run.ensures.not_accepted c.in-Err-run.ensures.write_fault

-- the options have the first tag of the arguments
pub returns-clause-cause : goal.returns-clause-cause
returns-clause-cause g c =
    subst (λ (o : Choice). HasCause (g.T.Causes.causes c.args.rt.now) o.first_tag c.in-Err-run.refusal)
    c.in-Ok.ensures.value c.in-Err-run.ensures.cause
