-- What the run says of what it reads is said of the two files, if their bytes are known.
use Rattle.retained.proofs.OfFiles.{of_both}
use Rattle.retained.proofs.command.write_table_of.Goals as goal
use Rattle.retention.specs.HeldTable.{WritesTable}
use Rattle.retention.specs.Outcome.{SaysOfInputs, bytes_of_run}

pub returns-in-Ok-run-clause-of_files : goal.returns-in-Ok-run-clause-of_files
returns-in-Ok-run-clause-of_files g c =
    of_both (g.T.Dumps.bytes_at c.args.rt.now c.args.arguments.now.file.now) _
    (g.T.Dumps.bytes_at c.args.rt.now c.args.arguments.now.labels.now) c.as_slice.result.now c.in-Ok.labels.items
    (λ given text. WritesTable (bytes_of_run given) text (g.W.Write.contents c.args.out.now.inner)
    (g.W.Write.contents c.run.new.writer.inner))
    c.in-Ok-open_dump.ensures.bytes c.as_slice.ensures.value c.in-Ok.ensures.bytes c.in-Ok-run.ensures.headline

pub returns-clause-says : goal.returns-clause-says
returns-clause-says g c =
    of_both (g.T.Dumps.bytes_at c.args.rt.now c.args.arguments.now.file.now) _
    (g.T.Dumps.bytes_at c.args.rt.now c.args.arguments.now.labels.now) c.as_slice.result.now c.in-Ok.labels.items
    (λ given text. SaysOfInputs (bytes_of_run given) text c.in-Err-run.fault)
    c.in-Ok-open_dump.ensures.bytes c.as_slice.ensures.value c.in-Ok.ensures.bytes c.in-Err-run.ensures.first_fault
