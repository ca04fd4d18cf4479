-- A frame has at least nine bytes.
use Rattle.std.proofs.Common.{ap, arith, length, subst, sym}
use Rattle.hprof_grammar.proofs.Bytes.{IsBytes, in_bytes}
use Rattle.hprof_grammar.proofs.Frames.{frame_takes}
use Rattle.hprof_grammar.proofs.Wholes.{frame_room}
use Rattle.hprof_grammar.proofs.cuts.behind_record.Goals as goal

pub returns : goal.returns
returns c =
    let bytes = subst IsBytes (sym c.new-reader.ensures) (in_bytes c.args.bytes.now c.type_inv.bytes) in
    let frame = frame_takes bytes c.in-Ok.ensures in
    omega (arith, frame_room frame, ap length c.new-reader.ensures)
