-- 0 is no superclass. Another superclass is sound if the table has it and the fate of its chain is not endless.
use Rattle.heap_graph.proofs.Words.{None, arith, class_named, common_steps, length, refl, subst, sym, ℕ, ◌<◌, ◌≡◌}
use Rattle.heap_graph.proofs.ClassTableLaws.{not_found}
use Rattle.heap_graph.proofs.RuleLaws.{class_bad, class_fine, endless_super, ends, fate_found, fate_read, fine_super}
use Rattle.heap_graph.proofs.RuleLaws.{missing_super, no_super, not_endless}
use Rattle.heap_graph.specs.declared.classes.fate.Fate.TheVariants as fates
use Rattle.heap_graph.proofs.objects.Objects.class_rule.Goals as goal

pub returns-then-superclass-eq0 : goal.returns-then-superclass-eq0
returns-then-superclass-eq0 g c = λ heap dump told st.
    class_fine c.args.self.now.view.id_size heap dump
    (no_super heap dump.super (omega (arith, c.superclass-superclass.ensures dump st)))

pub find-requires : goal.find-requires
find-requires g c = c.requires.heap.1.few

pub returns-in-None : goal.returns-in-None
returns-in-None g c = λ heap dump told st.
    class_bad c.args.self.now.view.id_size heap dump
    (missing_super heap dump.super (λ e. omega (arith, e, c.superclass-superclass.ensures dump st))
    (subst (λ (id : ℕ). class_named heap id ≡ None) (c.superclass-superclass.ensures dump st)
    (not_found _ _ _ _ told.classes (sym c.in-None.ensures))))

pub index-requires : goal.index-requires
index-requires g c =
    let below : c.in-Some.number < length c.args.self.now.fates.items =
    (fate_found _ _ _ _ _ _ c.requires.heap.1 (sym c.in-Some.ensures)).below in
    grind (arith, common_steps)

pub returns-in-Endless : goal.returns-in-Endless
returns-in-Endless g c = λ heap dump told st.
    let it = fate_read _ heap _ _ _ _ _ _ fates.Endless told c.in-Some.ensures
    (c.superclass-superclass.ensures dump st) c.index.ensures c.in-Endless.is in
    class_bad c.args.self.now.view.id_size heap dump (endless_super heap dump.super it.says)

pub returns-in-Unknown : goal.returns-in-Unknown
returns-in-Unknown g c = λ heap dump told st.
    let it = fate_read _ heap _ _ _ _ _ _ _ told c.in-Some.ensures (c.superclass-superclass.ensures dump st)
    c.index.ensures refl in
    class_fine c.args.self.now.view.id_size heap dump (fine_super heap dump.super it.class it.named
    (ends _ heap _ dump.super _ it.settled (not_endless _ c.in-Unknown.is)
    it.says))
