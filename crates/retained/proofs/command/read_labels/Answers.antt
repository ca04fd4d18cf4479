-- The reader's bytes are those of the file, if these are known.
use Rattle.std.proofs.Common.{◌≡◌}
use Rattle.retained.proofs.OfFiles.{of_reader}
use Rattle.retained.proofs.command.read_labels.Goals as goal
use Rattle.retained.specs.OfFiles.{bytes_of_labels}

pub returns-in-Ok-read_to_limit-clause-bytes : goal.returns-in-Ok-read_to_limit-clause-bytes
returns-in-Ok-read_to_limit-clause-bytes g c =
    of_reader (g.T.Dumps.bytes_at c.args.rt.now c.args.name.now) _
    (λ bytes. c.in-Ok-read_to_limit.text.items ≡ bytes_of_labels bytes) c.in-Ok.ensures.bytes
    c.in-Ok-read_to_limit.ensures.bytes
