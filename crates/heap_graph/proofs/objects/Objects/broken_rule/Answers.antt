-- The rules are tested in their order, so the first that is found broken is the least one.
use Rattle.heap_graph.proofs.Words.{arith, sym, ◌∙◌}
use Rattle.heap_graph.proofs.Standings.{there_at}
use Rattle.heap_graph.proofs.Testing.{fine_object, large_fails, of_kind_fails, own_object, repeated_object, zero_fails}
use Rattle.heap_graph.proofs.objects.Objects.broken_rule.Goals as goal

pub returns-then-id-eq0-clause-rule : goal.returns-then-id-eq0-clause-rule
returns-then-id-eq0-clause-rule g c = λ heap are told.
    let it = there_at _ _ _ _ _ _ are c.requires.below c.index-place.ensures in
    zero_fails c.args.self.now.view.id_size heap c.args.number it.object it.is
    (sym (c.object_id-id.ensures it.object it.stands) ∙ c.if-id-eq0.true)

pub returns-then-number-repeat-clause-rule : goal.returns-then-number-repeat-clause-rule
returns-then-number-repeat-clause-rule g c = λ heap are told.
    let it = there_at _ _ _ _ _ _ are c.requires.below c.index-place.ensures in
    repeated_object heap c.args.self.now.index c.args.number c.object_id-id.result c.args.repeat it.object it.is
    are.ids_are (c.object_id-id.ensures it.object it.stands) c.if-id-eq0.false c.requires.repeat
    c.args.self.now.view.id_size c.if-number-repeat.true

pub rule_of_kind-requires-clause-object : goal.rule_of_kind-requires-clause-object
rule_of_kind-requires-clause-object g c =
    let it = there_at _ _ _ _ _ _ c.requires.heap.1 c.requires.below c.index-place.ensures in
    (it.object, it.stands, it.describes)

pub returns-in-Some-clause-rule : goal.returns-in-Some-clause-rule
returns-in-Some-clause-rule g c = λ heap are told.
    let it = there_at _ _ _ _ _ _ are c.requires.below c.index-place.ensures in
    let own = own_object _ _ _ _ c.args.repeat _ it.is are.ids_are (c.object_id-id.ensures it.object it.stands)
    c.if-id-eq0.false c.requires.repeat (omega arith) in
    of_kind_fails c.args.self.now.view.id_size heap c.args.number it.object own c.in-Some.rule
    (c.in-Some.ensures heap it.object told it.stands it.describes)

pub returns-then-number-ge-MOST_OBJECTS-clause-rule : goal.returns-then-number-ge-MOST_OBJECTS-clause-rule
returns-then-number-ge-MOST_OBJECTS-clause-rule g c = λ heap are told.
    let it = there_at _ _ _ _ _ _ are c.requires.below c.index-place.ensures in
    let own = own_object _ _ _ _ c.args.repeat _ it.is are.ids_are (c.object_id-id.ensures it.object it.stands)
    c.if-id-eq0.false c.requires.repeat (omega arith) in
    large_fails c.args.self.now.view.id_size heap c.args.number it.object own
    (c.in_default.ensures heap it.object told it.stands it.describes) c.if-number-ge-MOST_OBJECTS.true

pub returns-clause-rule : goal.returns-clause-rule
returns-clause-rule g c = λ heap are told.
    let it = there_at _ _ _ _ _ _ are c.requires.below c.index-place.ensures in
    let own = own_object _ _ _ _ c.args.repeat _ it.is are.ids_are (c.object_id-id.ensures it.object it.stands)
    c.if-id-eq0.false c.requires.repeat (omega arith) in
    fine_object c.args.self.now.view.id_size heap c.args.number it.object own
    (c.in_default.ensures heap it.object told it.stands it.describes) c.if-number-ge-MOST_OBJECTS.false
