-- The bytes of the class and of those above are bounded, so the sum fits. Cutting it at each step is cutting it once.
use Rattle.heap_graph.proofs.Words.{ClassPlace, ap, arith, entry_at, layout_size, min, most_size, size_together, sym, ℕ}
use Rattle.heap_graph.proofs.Words.{◌+◌, ◌<◌, ◌^◌, ◌∙◌, ◌≡◌}
use Rattle.heap_graph.proofs.ClassTableLaws.{few_bytes, read_entry, size_of_class}
use Rattle.heap_graph.proofs.LayoutLaws.{size_more, size_told}
use Rattle.heap_graph.proofs.classes.Classes.layout_below.Goals as goal

pub overflow_add-bytes : goal.overflow_add-bytes
overflow_add-bytes g c =
    let few : (entry_at c.args.self.now.table.entries c.args.number).size < 2 ^ 32 =
    few_bytes _ _ _ _ c.requires.heap.3 c.requires.below in
    let is = read_entry c.args.self.now.table.entries c.args.number c.class_place.result c.requires.below
    c.class_place.ensures in
    omega (arith, few, ap (λ (p : ClassPlace). p.size) is, c.requires.heap.5.size_is)

pub returns : goal.returns
returns g c = λ heap dump rest are at above.
    let s : ℕ = c.args.self.now.view.id_size in
    let is = read_entry c.args.self.now.table.entries c.args.number c.class_place.result c.requires.below
    c.class_place.ensures in
    let own : c.class_place.result.size ≡ size_together s dump.members =
    ap (λ (p : ClassPlace). p.size) is ∙ size_of_class _ _ _ _ _ are c.requires.below at.named in
    record {
      size_is =
          size_told c.class_place.result.size c.args.above.size (layout_size s rest) c.min.result above.size_is
          c.min.ensures
          ∙ ap (λ (n : ℕ). min most_size (n + layout_size s rest)) own
          ∙ ap (λ (n : ℕ). min most_size n) (sym (size_more s dump rest));
      first_is = c.first_of.ensures heap dump rest are at above.first_is;
      next_is = above.first_is;
    }
