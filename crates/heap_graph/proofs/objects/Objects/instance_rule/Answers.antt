-- The fate of its class says what size the values must have, or that no chain is whole, and then any size is allowed.
use Rattle.heap_graph.proofs.Words.{None, ap, arith, bounds, class_named, common_steps, length, refl, subst, sym, ℕ}
use Rattle.heap_graph.proofs.Words.{◌<◌, ◌≡◌}
use Rattle.heap_graph.proofs.ClassTableLaws.{not_found}
use Rattle.heap_graph.proofs.RuleLaws.{fate_found, fate_read, instance_fine, instance_unknown, instance_wrong, no_chain}
use Rattle.heap_graph.proofs.RuleLaws.{not_whole, size_right, size_wrong}
use Rattle.heap_graph.specs.declared.classes.fate.Fate.TheVariants as fates
use Rattle.heap_graph.proofs.objects.Objects.instance_rule.Goals as goal

pub find-requires : goal.find-requires
find-requires g c = c.requires.heap.1.few

pub returns-in-None : goal.returns-in-None
returns-in-None g c = λ heap i told st. instance_unknown c.args.self.now.view.id_size heap i
    (subst (λ (id : ℕ). class_named heap id ≡ None) (c.instance_class.ensures i st)
    (not_found _ _ _ _ told.classes (sym c.in-None.ensures)))

pub index-requires : goal.index-requires
index-requires g c =
    let below : c.in-Some.number < length c.args.self.now.fates.items =
    (fate_found _ _ _ _ _ _ c.requires.heap.1 (sym c.in-Some.ensures)).below in
    grind (arith, common_steps)

pub returns-then-not-has_size : goal.returns-then-not-has_size
returns-then-not-has_size g c = λ heap i told st.
    let it = fate_read _ heap _ _ _ _ _ _ (fates.Whole c.in-Whole.layout) told c.in-Some.ensures
    (c.instance_class.ensures i st) c.index.ensures c.in-Whole.is in
    instance_wrong _ heap i it.class it.says.0 it.named it.says.1
    (size_wrong _ heap _ i.class (length i.values) c.in-Whole.layout it.says (bounds st.is.formed).values
    (λ e. c.has_size.ensures.wrong c.if-not-has_size.true
    (omega (arith, e, ap length (c.instance_values.ensures i st)))))

pub returns-in-Whole : goal.returns-in-Whole
returns-in-Whole g c = λ heap i told st.
    let it = fate_read _ heap _ _ _ _ _ _ (fates.Whole c.in-Whole.layout) told c.in-Some.ensures
    (c.instance_class.ensures i st) c.index.ensures c.in-Whole.is in
    instance_fine _ heap i it.class it.named
    (size_right _ heap _ i.class (length i.values) c.in-Whole.layout it.says (bounds st.is.formed).values
    (omega (arith, c.has_size.ensures.right c.if-not-has_size.false, ap length (c.instance_values.ensures i st))))

pub returns-in-Unknown : goal.returns-in-Unknown
returns-in-Unknown g c = λ heap i told st.
    let it = fate_read _ heap _ _ _ _ _ _ _ told c.in-Some.ensures (c.instance_class.ensures i st) c.index.ensures
    refl in
    instance_fine _ heap i it.class it.named
    (λ chain is. absurd (no_chain _ heap _ i.class _ chain it.settled (not_whole _ c.in-Unknown.is)
    it.says is))
