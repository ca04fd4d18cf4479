-- Entries ascend, so the two beside the ends show that the ends are right.
use Rattle.id_index.proofs.Words.{arith}
use Rattle.id_index.proofs.Wide.{ends_right}
use Rattle.id_index.proofs.wide_entries.right_ends.Goals.{else-begin-gt0-via-else-begin-gt0}
use Rattle.id_index.proofs.wide_entries.right_ends.Goals.{else-begin-gt0-via-then-begin-gt0+else-id}
use Rattle.id_index.proofs.wide_entries.right_ends.Goals.{else-end-entries-2-via-else-end-entries-2}
use Rattle.id_index.proofs.wide_entries.right_ends.Goals.{else-end-entries-2-via-then-end-entries-2+else-id-2}
use Rattle.id_index.proofs.wide_entries.right_ends.Goals as goal

pub returns : goal.returns
returns c =
    ends_right c.args.entries.now c.args.id c.args.begin c.args.end c.requires (omega (arith, c.if-begin-end.false))
    (omega (arith, c.if-end-entries.false))
    (λ some. elim c.else-begin-gt0.branch [
      | else-begin-gt0-via-then-begin-gt0+else-id w ↦ omega (arith, w.if-id.false, w.id.ensures)
      | else-begin-gt0-via-else-begin-gt0 w ↦ absurd (omega (arith, w.if-begin-gt0.false, some))
    ])
    (λ inside. elim c.else-end-entries-2.branch [
      | else-end-entries-2-via-then-end-entries-2+else-id-2 w ↦
          omega (arith, w.if-id-2.false, w.id-then-end-entries-2.ensures)
      | else-end-entries-2-via-else-end-entries-2 w ↦ absurd (omega (arith, w.if-end-entries-2.false, inside))
    ])
