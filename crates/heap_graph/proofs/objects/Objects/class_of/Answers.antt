-- The class of an instance is in the table, and its fate is whole, since the heap list is linked.
use Rattle.heap_graph.proofs.Words.{ap, arith, class_number, common_steps, length, refl, sym, ℕ, ◌<◌, ◌∙◌}
use Rattle.heap_graph.proofs.InstanceLaws.{linked_whole, right_size}
use Rattle.heap_graph.proofs.Linking.{no_unknown}
use Rattle.heap_graph.proofs.RuleLaws.{fate_found, fate_read}
use Rattle.heap_graph.specs.declared.classes.fate.Fate.TheVariants as fates
use Rattle.heap_graph.proofs.objects.Objects.class_of.Goals as goal

pub class_numbered-number-requires : goal.class_numbered-number-requires
class_numbered-number-requires g c = (
  c.requires.0,
  c.requires.3,
  c.requires.4,
  no_unknown _ c.requires.0 _ c.requires.2 _ c.requires.3.linked c.requires.5.is
      (c.instance_class-id.ensures c.requires.2 c.requires.5.stands),
)

pub index-requires : goal.index-requires
index-requires g c =
    let below : c.class_numbered-number.result < length c.args.self.now.fates.items =
    (fate_found _ _ _ _ _ _ c.requires.4 (sym c.class_numbered-number.ensures.found)).below in
    grind (arith, common_steps)

pub returns-in-Whole-clause-first : goal.returns-in-Whole-clause-first
returns-in-Whole-clause-first g c = λ heap n i linked told at.
    let it = fate_read _ heap _ _ _ _ _ _ (fates.Whole c.in-Whole.layout) told c.class_numbered-number.ensures.found
    (c.instance_class-id.ensures i at.stands) c.index.ensures c.in-Whole.is in
    record {
      chain = it.says.0;
      is = it.says.1;
      begins = it.says.2.first_is;
      size_is = right_size c.args.self.now.view.id_size heap n i it.says.0 linked.linked at.is it.says.1;
    }

pub returns-in_default-clause-first : goal.returns-in_default-clause-first
returns-in_default-clause-first g c = λ heap n i linked told at.
    let it = fate_read _ heap _ _ _ _ _ _ _ told c.class_numbered-number.ensures.found
    (c.instance_class-id.ensures i at.stands) c.index.ensures refl in
    absurd (linked_whole _ heap _ i.class it.class _ linked.linked it.named it.settled c.in_default.not-Whole it.says)

pub returns-in-Whole-clause-class : goal.returns-in-Whole-clause-class
returns-in-Whole-clause-class g c = λ heap n i linked told at.
    c.class_numbered-number.ensures.number heap linked told
    ∙ ap (λ (id : ℕ). class_number heap id) (c.instance_class-id.ensures i at.stands)

pub returns-in_default-clause-class : goal.returns-in_default-clause-class
returns-in_default-clause-class g c = λ heap n i linked told at.
    c.class_numbered-number.ensures.number heap linked told
    ∙ ap (λ (id : ℕ). class_number heap id) (c.instance_class-id.ensures i at.stands)
