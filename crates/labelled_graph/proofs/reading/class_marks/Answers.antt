-- Each entry changes the table by what it says.
use Rattle.std.proofs.Common.{List, [], subst, sym, take}
use Rattle.std.proofs.lemmas.List.{take_more}
use Rattle.std.proofs.lemmas.List.Elements.{Contains-get_or}
use Rattle.label_list.specs.declared.entry.Entry.{Entry}
use Rattle.labelled_graph.proofs.Marking.{label_below, no_base, none_said, not_said, said_now}
use Rattle.labelled_graph.proofs.Stores.{extends_itself, extends_on}
use Rattle.labelled_graph.specs.working.Saying.{AreMarks, class_place, no_place}
use Rattle.labelled_graph.proofs.reading.class_marks.Goals as goal
use Rattle.labelled_graph.proofs.reading.class_marks.Goals.{in-Some+in_ok-say, in_default}

pub loop-entry-init : goal.loop-entry-init
loop-entry-init g c = record {
  extends = extends_itself _;
  are = none_said c.args.store.now [] no_place class_place c.new-marks.result.marks c.new-marks.ensures;
}

pub say-requires-clause-label : goal.say-requires-clause-label
say-requires-clause-label g c =
    let below = rw (← c.loop-entry.invariant.extends.labels_are) at c.requires in
    label_below c.args.entries.now c.loop-entry.store.labels class_place _ c.in-Some.said below
    (Contains-get_or c.args.entries.now c.loop-entry.entry-index _ c.loop-entry-test.true) c.in-Some.ensures

pub loop-entry-preserved : goal.loop-entry-preserved
loop-entry-preserved g c =
    let entries = c.args.entries.now in
    let i = c.loop-entry.entry-index in
    let old = c.loop-entry.store in
    let are = c.loop-entry.invariant.are in
    let within = c.len-sets.ensures.within in
    elim c.match-said_of_class.branch [
      | in-Some+in_ok-say w ↦ rw (w.store-is, w.marks-is) (record {
        extends = extends_on c.args.store.now old w.say.new.store c.loop-entry.invariant.extends w.say.ensures.extends;
        are = subst (λ (es : List Entry). AreMarks w.say.new.store [] no_place es class_place w.say.new.self.marks)
            (sym (take_more entries i _ c.loop-entry-test.true))
            (said_now old w.say.new.store [] (take i entries) no_place class_place c.loop-entry.marks.marks
            w.say.new.self.marks _ _ w.in-Some.said w.say.ensures.extends within w.in-Some.ensures
            w.in_ok-say.ensures.said (no_base old w.in-Some.said.key w.in-Some.said.index) are);
      })
      | in_default w ↦ rw (w.store-is, w.marks-is) (record {
        extends = c.loop-entry.invariant.extends;
        are = subst (λ (es : List Entry). AreMarks old [] no_place es class_place c.loop-entry.marks.marks)
            (sym (take_more entries i _ c.loop-entry-test.true))
            (not_said old old [] (take i entries) no_place class_place c.loop-entry.marks.marks _ (extends_itself old)
            within w.in_default.ensures are);
      })
    ]
