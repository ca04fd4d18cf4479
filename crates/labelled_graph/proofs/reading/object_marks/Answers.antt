-- Each entry changes the table by what it says, over what the class's mark says.
use Rattle.std.proofs.Common.{List, arith, subst, sym, take, true, ◌∙◌}
use Rattle.std.proofs.lemmas.List.{length-set, take_more}
use Rattle.std.proofs.lemmas.List.Elements.{Contains-get_or}
use Rattle.std.proofs.lemmas.Option.{none-some}
use Rattle.label_list.specs.declared.entry.Entry.{Entry}
use Rattle.labelled_graph.proofs.Classes.{base_says}
use Rattle.labelled_graph.proofs.Marking.{before_sound, label_below, none_said, not_said, said_now}
use Rattle.labelled_graph.proofs.Objects.{covered_on, said_within}
use Rattle.labelled_graph.proofs.Stores.{extends_itself, extends_on}
use Rattle.labelled_graph.specs.working.MarkMaps.{mark_at}
use Rattle.labelled_graph.specs.working.Reads.{class_of_object}
use Rattle.labelled_graph.specs.working.Saying.{AreMarks, object_place}
use Rattle.labelled_graph.proofs.reading.object_marks.Goals as goal
use Rattle.labelled_graph.proofs.reading.object_marks.Goals.{in-Some+in_ok-say, in_default}

pub returns-in_err-has-clause-extends : goal.returns-in_err-has-clause-extends
returns-in_err-has-clause-extends g c = extends_itself _

pub loop-entry-init : goal.loop-entry-init
loop-entry-init g c = record {
  extends = extends_itself _;
  are = none_said c.args.store.now c.args.entries.now (class_of_object c.args.graph.now)
      (object_place c.args.graph.now.ids) c.new-marks.result.marks c.new-marks.ensures;
  covered = λ o i mark h. absurd (none-some mark (sym (c.new-marks.ensures o i) ∙ h));
  many = omega (arith, c.in_ok-has.ensures.len, c.in_ok-has.has.ok.0, c.len.ensures.value);
}

pub say-requires-clause-before : goal.say-requires-clause-before
say-requires-clause-before g c =
    let list = c.args.entries.now in
    let graph = c.args.graph.now in
    let said = c.in-Some.said in
    before_sound c.loop-entry.store list (take c.loop-entry.entry-index list)
    (class_of_object graph said.key said.index)
    (object_place graph.ids said.key said.index) (mark_at c.loop-entry.marks.marks said.key said.index)
    c.class_mark-base.result (c.loop-entry.invariant.are.each said.key said.index)
    (base_says c.args.store.now c.loop-entry.store graph list c.args.classes.now.marks said.key said.index
    c.class_mark-base.result c.loop-entry.invariant.extends c.len-begun.ensures.within c.requires.classes
    c.class_mark-base.ensures)

pub say-requires-clause-label : goal.say-requires-clause-label
say-requires-clause-label g c =
    let below = rw (← c.loop-entry.invariant.extends.labels_are) at c.requires.labels in
    label_below c.args.entries.now c.loop-entry.store.labels (object_place c.args.graph.now.ids) _ c.in-Some.said below
    (Contains-get_or c.args.entries.now c.loop-entry.entry-index _ c.loop-entry-test.true) c.in-Some.ensures

pub loop-entry-preserved : goal.loop-entry-preserved
loop-entry-preserved g c =
    let list = c.args.entries.now in
    let graph = c.args.graph.now in
    let i = c.loop-entry.entry-index in
    let old = c.loop-entry.store in
    let are = c.loop-entry.invariant.are in
    let within = c.len-sets.ensures.within in
    elim c.match-said_of_object.branch [
      | in-Some+in_ok-say w ↦ rw (w.store-is, w.marks-is, w.has-is) (record {
        extends = extends_on c.args.store.now old w.say.new.store c.loop-entry.invariant.extends w.say.ensures.extends;
        are = subst (λ (es : List Entry). AreMarks w.say.new.store list (class_of_object graph) es
            (object_place graph.ids)
            w.say.new.self.marks)
            (sym (take_more list i _ c.loop-entry-test.true))
            (said_now old w.say.new.store list (take i list) (class_of_object graph) (object_place graph.ids)
            c.loop-entry.marks.marks w.say.new.self.marks w.class_mark-base.result _ w.in-Some.said
            w.say.ensures.extends
            within w.in-Some.ensures w.in_ok-say.ensures.said
            (base_says c.args.store.now old graph list c.args.classes.now.marks w.in-Some.said.key w.in-Some.said.index
            w.class_mark-base.result c.loop-entry.invariant.extends c.len-begun.ensures.within c.requires.classes
            w.class_mark-base.ensures) are);
        covered = covered_on c.loop-entry.marks.marks w.say.new.self.marks c.loop-entry.has.items w.in-Some.said.key
            w.in-Some.said.index _ w.in_ok-say.ensures.said.put
            (omega (
              arith,
              said_within graph.ids _ w.in-Some.said w.in-Some.ensures,
              c.len.ensures.whole.id_each,
              c.loop-entry.invariant.many,
            ))
            c.loop-entry.invariant.covered;
        many = length-set c.loop-entry.has.items w.in-Some.said.key true ∙ c.loop-entry.invariant.many;
      })
      | in_default w ↦ rw (w.store-is, w.marks-is, w.has-is) (record {
        extends = c.loop-entry.invariant.extends;
        are = subst (λ (es : List Entry). AreMarks old list (class_of_object graph) es (object_place graph.ids)
            c.loop-entry.marks.marks)
            (sym (take_more list i _ c.loop-entry-test.true))
            (not_said old old list (take i list) (class_of_object graph) (object_place graph.ids)
            c.loop-entry.marks.marks _ (extends_itself old) within w.in_default.ensures are);
        covered = c.loop-entry.invariant.covered;
        many = c.loop-entry.invariant.many;
      })
    ]
