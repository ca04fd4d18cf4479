-- What one write took follows what was taken before it.
use Rattle.std.proofs.Common.{arith, length, drop, ◌-◌, ◌≤◌, length-take, length-drop}
use Rattle.histogram.proofs.BytesMoved.{takes_on}
use Rattle.front_end.proofs.printing.write_beginning.Goals as goal

pub loop-at-preserved : goal.loop-at-preserved
loop-at-preserved g c =
    let bytes = c.args.bytes.now in
    let at = c.loop-at.at in
    let count = c.in-Ok.count in
    let fits : count ≤ length bytes - at =
    omega (arith, c.in-Ok.ensures.bound, length-take (length bytes - at) (drop at bytes), length-drop at bytes) in
    record {
      within = omega (arith, fits, c.loop-at.invariant.within);
      taken = takes_on (g.E.Write.contents c.args.err.now) (g.E.Write.contents c.loop-at.err)
          (g.E.Write.contents c.write.new.self)
          bytes at count fits c.loop-at.invariant.taken c.in-Ok.ensures.bytes;
    }
