-- The sets are gathered from the highest number down, and then turned round.
use Rattle.std.proofs.Common.{arith, length, length-set, set, subst, sym, true, ◌+◌, ◌-◌, ◌<◌, ◌∙◌, ◌≡◌, ◌≤◌}
use Rattle.held_table.specs.working.Marking.{AreGathered, IsMarked}
use Rattle.held_table.proofs.MarkingLaws.{defined_lines, gathered_all, gathered_none, gathered_with, marked_kept}
use Rattle.held_table.proofs.MarkingLaws.{needed_all}
use Rattle.held_table.proofs.MarkingStart.{marked_read, only_plain}
use Rattle.held_table.proofs.joints.joints_of.Goals as goal

pub loop-set-init : goal.loop-set-init
loop-set-init g c =
    let marks = c.in_ok-marks.marks.items in
    let all : length marks ≤ c.len-set.result =
    omega (arith, c.in_ok-marks.ensures.each, c.requires.each, c.len-set.ensures.value) in
    record {
      each = c.in_ok-marks.ensures.each;
      lines = c.in_ok-marks.ensures.marked;
      gathered = subst (AreGathered c.args.store.now c.args.lines.now marks c.len-set.result)
          (sym c.new-joints.ensures.items)
          (gathered_none c.args.store.now c.args.lines.now marks c.len-set.result all
          (only_plain c.args.store.now (length c.args.plains.now) c.args.lines.now marks c.requires.lines
          c.in_ok-marks.ensures.only) c.in_ok-marks.ensures.only);
    }

pub loop-set-preserved-in-Continue-branch-2 : goal.loop-set-preserved-in-Continue-branch-2
loop-set-preserved-in-Continue-branch-2 g c =
    let marks = c.loop-set.marks.items in
    let j = c.in-Some.joint in
    let n = c.loop-set.set - 1 in
    let before : c.loop-set.set ≡ n + 1 = omega (arith, c.loop-set-test.true) in
    let within : n < length marks = omega (
      arith,
      c.loop-set-test.true,
      c.loop-set.auto.set,
      c.loop-set.invariant.each,
      c.requires.each,
      c.len-set.ensures.value,
    ) in
    let marked : IsMarked marks n = marked_read marks n within c.index.ensures c.if-index.true in
    let mid = set marks j.first true in
    let first : j.first < length marks = omega (arith, within, c.in-Some.ensures.first_below) in
    let second : j.second < length mid =
    omega (arith, within, c.in-Some.ensures.second_below, length-set marks j.first true) in
    record {
      each = length-set mid j.second true ∙ length-set marks j.first true ∙ c.loop-set.invariant.each;
      lines = λ k d h.
          marked_kept mid j.second _ second (marked_kept marks j.first _ first (c.loop-set.invariant.lines k d h));
      gathered = gathered_with c.args.store.now c.args.lines.now marks n c.loop-set.joints.items
          (subst (λ m. AreGathered c.args.store.now c.args.lines.now marks m c.loop-set.joints.items) before
          c.loop-set.invariant.gathered) j marked c.in-Some.ensures within c.push.new.self.items
          c.in_ok-push.ensures.items;
    }

pub returns-clause-joints : goal.returns-clause-joints
returns-clause-joints g c =
    let end : c.loop-set.set ≡ 0 = omega (arith, c.loop-set-test.false) in
    gathered_all c.args.store.now c.args.lines.now c.loop-set.marks.items c.loop-set.joints.items
    (subst (λ m. AreGathered c.args.store.now c.args.lines.now c.loop-set.marks.items m c.loop-set.joints.items) end
    c.loop-set.invariant.gathered) c.reverse.new.self.items c.reverse.ensures.items

pub returns-clause-defined : goal.returns-clause-defined
returns-clause-defined g c =
    let end : c.loop-set.set ≡ 0 = omega (arith, c.loop-set-test.false) in
    defined_lines c.args.store.now c.args.lines.now c.loop-set.marks.items c.loop-set.joints.items
    (subst (λ m. AreGathered c.args.store.now c.args.lines.now c.loop-set.marks.items m c.loop-set.joints.items) end
    c.loop-set.invariant.gathered) c.reverse.new.self.items c.reverse.ensures.items
    (length c.args.plains.now) c.requires.lines c.loop-set.invariant.lines

pub returns-clause-needed : goal.returns-clause-needed
returns-clause-needed g c =
    let end : c.loop-set.set ≡ 0 = omega (arith, c.loop-set-test.false) in
    needed_all c.args.store.now c.args.lines.now c.loop-set.marks.items c.loop-set.joints.items
    (subst (λ m. AreGathered c.args.store.now c.args.lines.now c.loop-set.marks.items m c.loop-set.joints.items) end
    c.loop-set.invariant.gathered) c.reverse.new.self.items c.reverse.ensures.items
