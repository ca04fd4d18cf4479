-- The table has a class with the identifier if the heap has one, and an array has no other rule to break.
use Rattle.heap_graph.proofs.Words.{None, Some, class_named, subst, sym, ℕ, ◌≡◌}
use Rattle.heap_graph.proofs.ClassTableLaws.{not_found}
use Rattle.heap_graph.proofs.RuleLaws.{array_fine, array_unknown, fate_found}
use Rattle.heap_graph.proofs.objects.Objects.array_rule.Goals as goal

pub find-requires : goal.find-requires
find-requires g c = c.requires.heap.1.few

pub returns-in-Some : goal.returns-in-Some
returns-in-Some g c = λ heap a told st.
    let it = fate_found _ _ _ _ _ _ told (sym c.in-Some.ensures) in
    array_fine c.args.self.now.view.id_size heap a it.class
    (subst (λ (id : ℕ). class_named heap id ≡ Some it.class) (c.array_class.ensures a st) it.named)

pub returns-in-None : goal.returns-in-None
returns-in-None g c = λ heap a told st. array_unknown c.args.self.now.view.id_size heap a
    (subst (λ (id : ℕ). class_named heap id ≡ None) (c.array_class.ensures a st)
    (not_found _ _ _ _ told.classes (sym c.in-None.ensures)))
