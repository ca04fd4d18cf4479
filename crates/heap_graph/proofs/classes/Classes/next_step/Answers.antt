-- Nothing above ends the chain, a missing class cuts it, one on the path makes it endless, and a known fate is the
-- fate.
use Rattle.std.proofs.Common.{[], arith, length, refl, ◌<◌}
use Rattle.heap_graph.specs.declared.classes.fate.Fate.TheVariants as fates
use Rattle.heap_graph.proofs.ClassTableLaws.{numbered, same_count, under}
use Rattle.heap_graph.proofs.FateLaws.{comes_back, fate_above, read_fate, settled_fate}
use Rattle.heap_graph.proofs.classes.Classes.next_step.Goals as goal

pub returns-in-Nothing : goal.returns-in-Nothing
returns-in-Nothing g c = λ heap path super are known under path_is.
    (([], c.in-Nothing.ensures heap super are under, record { size_is = refl; first_is = refl; next_is = refl }), tt)

pub returns-in-Missing : goal.returns-in-Missing
returns-in-Missing g c = λ heap path super are known under path_is.
    (([], c.in-Missing.ensures heap super are under), tt)

pub bounds : goal.bounds
bounds g c =
    let it = numbered c.args.self.now.view c.requires.heap.0 c.args.self.now.table.entries c.args.at c.requires.heap.1
    c.requires.below in
    let is = c.in-Class.ensures c.requires.heap.0 it.holds.class.super c.requires.heap.1
    (under c.args.self.now.view c.requires.heap.0 c.args.self.now.table.entries c.args.at it c.requires.below) in
    omega (arith, is.0, same_count c.args.self.now.table.entries)

pub returns-in-Unknown : goal.returns-in-Unknown
returns-in-Unknown g c = λ heap path super are known under path_is.
    let is = c.in-Class.ensures heap super are under in (
      is.0,
      is.1,
      read_fate c.args.known.now c.in-Class.next fates.Unknown
          (omega (arith, is.0, known.one_each)) c.in-Unknown.is,
    )

pub returns-in-OnPath : goal.returns-in-OnPath
returns-in-OnPath g c = λ heap path super are known under path_is.
    let is = c.in-Class.ensures heap super are under in
    let below : c.in-Class.next < length c.args.known.now = omega (arith, is.0, known.one_each) in
    (comes_back _ known path_is is.1 (read_fate _ _ _ below c.in-OnPath.is), tt)

pub returns-in_default : goal.returns-in_default
returns-in_default g c = λ heap path super are known under path_is.
    let is = c.in-Class.ensures heap super are under in
    let below : c.in-Class.next < length c.args.known.now = omega (arith, is.0, known.one_each) in (
      fate_above _ _ known is.1 (read_fate _ _ _ below refl),
      settled_fate _ c.in_default.not-Unknown c.in_default.not-OnPath,
    )
