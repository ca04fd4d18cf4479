-- The tables say what the list says, so the pass over their graph finds what the definitions ask.
use Rattle.std.proofs.Common.{arith, ◌∙◌, ◌≡◌}
use Rattle.std.proofs.lemmas.Result.{IfOk-weaker}
use Rattle.label_list.specs.Entries.{label_count}
use Rattle.label_flow.specs.Flow.{Flow, set_of}
use Rattle.label_sets.specs.Sets.{labels_of}
use Rattle.labelled_graph.proofs.Holds.{are_held}
use Rattle.labelled_graph.proofs.Referring.{formed}
use Rattle.labelled_graph.specs.Holding.{AreHeld}
use Rattle.labelled_graph.proofs.holding.held_by.Goals as goal

pub of-requires-clause-labels : goal.of-requires-clause-labels
of-requires-clause-labels g c = λ l p h.
    omega (
      arith,
      c.each_label_is_counted.ensures c.args.entries.now l p h,
      c.in_ok-store.ensures.labels,
      c.requires.labels,
    )

pub flow_of-requires : goal.flow_of-requires
flow_of-requires g c =
    let graph = c.args.graph.now in
    let tables = c.in_ok-tables.tables in
    let are = c.in_ok-tables.ensures.tables in
    formed c.of.new.store graph c.args.entries.now tables.classes tables.objects.marks.marks tables.objects.has.items
    tables.roots.items are c.len-objects.ensures.whole

pub returns-clause-held : goal.returns-clause-held
returns-clause-held g c =
    let graph = c.args.graph.now in
    let list = c.args.entries.now in
    let tables = c.in_ok-tables.tables in
    let are = c.in_ok-tables.ensures.tables in
    IfOk-weaker c.flow_of.result _ (λ (f : Flow). AreHeld graph list (set_of f) (labels_of f.store))
    (λ (f : Flow) is. are_held c.of.new.store graph list tables.classes tables.objects.marks.marks
    tables.objects.has.items tables.roots.items f are is) c.flow_of.ensures

pub returns-clause-labels : goal.returns-clause-labels
returns-clause-labels g c =
    let begun = c.in_ok-tables.ensures.extends.labels_are ∙ c.in_ok-store.ensures.labels ∙ c.requires.labels in
    IfOk-weaker c.flow_of.result _ (λ (f : Flow). f.store.labels ≡ label_count c.args.entries.now)
    (λ (f : Flow) is. is.extends.labels_are ∙ begun) c.flow_of.ensures
