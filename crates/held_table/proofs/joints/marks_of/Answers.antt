-- One more line has its set marked.
use Rattle.std.proofs.Common.{arith, get_or, length, length-set, subst, take_all, true, ◌<◌, ◌∙◌}
use Rattle.held_table.specs.declared.line.Line.{Line}
use Rattle.held_table.specs.working.Marking.{AreMarked}
use Rattle.held_table.proofs.MarkingStart.{marked_more, only_more}
use Rattle.held_table.proofs.joints.marks_of.Goals as goal

none : Line
none = record { set = 0; row = 0; remainder = 0; count = 0; bytes = 0 }

pub loop-line-preserved : goal.loop-line-preserved
unfolding none
loop-line-preserved g c =
    let lines = c.args.lines.now in
    let i = c.loop-line.line-index in
    let marks = c.loop-line.marks.items in
    let line = get_or lines i none in
    let within : line.set < length marks =
    omega (arith, c.requires i none c.loop-line-test.true, c.loop-line.invariant.each) in
    record {
      each = length-set marks line.set true ∙ c.loop-line.invariant.each;
      marked = marked_more lines i none marks c.loop-line-test.true within c.loop-line.invariant.marked;
      only = only_more lines i none marks c.loop-line-test.true within c.loop-line.invariant.only;
    }

pub returns-clause-marked : goal.returns-clause-marked
returns-clause-marked g c =
    subst (λ ls. AreMarked ls c.loop-line.marks.items)
    (take_all c.loop-line.line-index c.args.lines.now c.loop-line-test.false) c.loop-line.invariant.marked
