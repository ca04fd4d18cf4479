-- The object at the place is of the kind that was read there, so it is tested by the rules of its kind.
use Rattle.heap_graph.proofs.Words.{IsRuleOfKind, Some, Stands, SubRecord, class_dump, instance_dump, object_array_dump}
use Rattle.heap_graph.proofs.Words.{object_kind, refl, subst, sym, ◌≡◌}
use Rattle.heap_graph.proofs.Standings.{IsDumpBy, is_class_dump, is_instance_dump}
use Rattle.hprof_grammar.specs.declared.kinds.ObjectKind.TheVariants as kinds
use Rattle.heap_graph.proofs.objects.Objects.rule_of_kind.Goals as goal

is_array_dump : (o : SubRecord) → object_kind o ≡ Some kinds.ObjectArray → IsDumpBy object_array_dump o
is_array_dump (object_array_dump a) h = record { what = a; same = refl }
is_array_dump o h = absurd (cc h)

pub returns-in-Class : goal.returns-in-Class
returns-in-Class g c = λ heap o told st describes.
    let dump : IsDumpBy class_dump o = is_class_dump o (c.in-Class.ensures o st describes) in
    subst (λ (x : SubRecord). IsRuleOfKind c.args.self.now.view.id_size heap x c.class_rule.result) (sym dump.same)
    (c.class_rule.ensures heap dump.what told
    (subst (λ (x : SubRecord). Stands c.args.self.now.view c.args.at x) dump.same st))

pub returns-in-Instance : goal.returns-in-Instance
returns-in-Instance g c = λ heap o told st describes.
    let dump : IsDumpBy instance_dump o = is_instance_dump o (c.in-Instance.ensures o st describes) in
    subst (λ (x : SubRecord). IsRuleOfKind c.args.self.now.view.id_size heap x c.instance_rule.result) (sym dump.same)
    (c.instance_rule.ensures heap dump.what told
    (subst (λ (x : SubRecord). Stands c.args.self.now.view c.args.at x) dump.same st))

pub returns-in-ObjectArray : goal.returns-in-ObjectArray
returns-in-ObjectArray g c = λ heap o told st describes.
    let dump : IsDumpBy object_array_dump o = is_array_dump o (c.in-ObjectArray.ensures o st describes) in
    subst (λ (x : SubRecord). IsRuleOfKind c.args.self.now.view.id_size heap x c.array_rule.result) (sym dump.same)
    (c.array_rule.ensures heap dump.what told
    (subst (λ (x : SubRecord). Stands c.args.self.now.view c.args.at x) dump.same st))
