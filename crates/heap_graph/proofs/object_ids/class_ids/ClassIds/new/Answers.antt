-- The dump of a class is formed, which bounds its parts. Read one after another they are what the class holds.
use Rattle.heap_graph.proofs.Words.{ap, arith, bounds, length}
use Rattle.heap_graph.proofs.ObjectIdLaws.{class_constants, class_parts, class_statics}
use Rattle.heap_graph.proofs.object_ids.class_ids.ClassIds.new.Goals as goal

pub invariant_of-result : goal.invariant_of-result
invariant_of-result c =
    let s = c.args.view.now.id_size in
    let d = c.requires.dump.0 in
    let stands = c.requires.dump.1 in
    record {
      few = omega (arith, ap length (c.leading_ids.ensures d stands));
      constants = class_constants s d c.constants.result c.requires.size.0 c.requires.size.1 (bounds stands.is.formed)
          (c.constants.ensures d stands);
      statics = class_statics s d c.statics.result c.requires.size.0 c.requires.size.1 (bounds stands.is.formed)
          (c.statics.ensures d stands);
    }

pub returns : goal.returns
returns c = λ d stands.
    class_parts c.args.view.now.id_size d c.leading_ids.result c.constants.result c.statics.result
    (bounds stands.is.formed) (c.leading_ids.ensures d stands) (c.constants.ensures d stands)
    (c.statics.ensures d stands)
