-- An unknown class starts a climb with an empty path. Any other class is known, since no class is on an empty path.
use Rattle.std.proofs.Common.{arith, length, refl, ◌<◌}
use Rattle.heap_graph.proofs.ClassTableLaws.{same_count}
use Rattle.heap_graph.proofs.FateLaws.{first_climb, known_here, read_fate}
use Rattle.heap_graph.proofs.PathLaws.{contains_none}
use Rattle.heap_graph.proofs.classes.Classes.settle.Goals as goal

pub climb-requires-clause-heap : goal.climb-requires-clause-heap
climb-requires-clause-heap g c =
    let heap = c.requires.heap in
    let climb = first_climb c.args.self.now.table.entries _ _ c.requires.path heap.2 c.requires.below
    c.in-Unknown.is in
    (heap.0, heap.1, climb)

pub unwind-requires : goal.unwind-requires
unwind-requires g c =
    let heap = c.requires.heap in
    let it = c.in_ok-fate-in-Unknown.ensures.top heap.0 heap.1 (first_climb c.args.self.now.table.entries _ _
    c.requires.path heap.2 c.requires.below c.in-Unknown.is) in
    record { heap = (heap.0, heap.1, it.0, it.1) }

pub returns-in-Unknown-clause-known : goal.returns-in-Unknown-clause-known
returns-in-Unknown-clause-known g c =
    let heap = c.requires.heap in
    let it = c.in_ok-fate-in-Unknown.ensures.top heap.0 heap.1 (first_climb c.args.self.now.table.entries _ _
    c.requires.path heap.2 c.requires.below c.in-Unknown.is) in
    c.unwind.ensures.known c.args.first it.2

pub returns-in-Unknown-clause-fates : goal.returns-in-Unknown-clause-fates
returns-in-Unknown-clause-fates g c = λ heap are known.
    let it = c.in_ok-fate-in-Unknown.ensures.top heap are (first_climb c.args.self.now.table.entries _ _
    c.requires.path known c.requires.below c.in-Unknown.is) in
    c.unwind.ensures.fates heap are it.0 it.1

pub returns-in_default : goal.returns-in_default
returns-in_default g c =
    let below : c.args.first < length c.args.known.now =
    omega (arith, c.requires.below, same_count c.args.self.now.table.entries, c.requires.heap.2.one_each) in
    record {
      stays = λ k it. it;
      path = c.requires.path;
      known = known_here c.args.known.now c.args.first _ (read_fate _ _ _ below refl) c.in_default.not-Unknown
          (λ e. contains_none c.args.first (c.requires.heap.2.on_path c.args.first (read_fate _ _ _ below e)));
      fates = λ heap are known. known;
    }
