-- The superclass that is read is that of the dump, and the table has a class with an identifier if the heap has one.
use Rattle.heap_graph.proofs.Words.{None, arith, class_named, ids_of, subst, sym, ℕ, ◌∙◌, ◌≡◌}
use Rattle.heap_graph.proofs.ClassTableLaws.{found, not_found, read_super, stands_at}
use Rattle.heap_graph.proofs.classes.Classes.above.Goals as goal

pub superclass-superclass-requires : goal.superclass-superclass-requires
superclass-superclass-requires g c =
    stands_at c.args.self.now.view c.requires.heap.0 c.args.self.now.table.entries c.args.number c.class_place.result
    c.requires.heap.1 c.requires.below c.class_place.ensures

pub returns-then-superclass-eq0 : goal.returns-then-superclass-eq0
returns-then-superclass-eq0 g c = λ heap super are under.
    let is : c.superclass-superclass.result ≡ super =
    read_super _ _ _ _ _ _ _ are c.requires.below c.class_place.ensures under c.superclass-superclass.ensures in
    omega (arith, is)

pub returns-in-Some : goal.returns-in-Some
returns-in-Some g c = λ heap super are under.
    let is : c.superclass-superclass.result ≡ super =
    read_super _ _ _ _ _ _ _ are c.requires.below c.class_place.ensures under c.superclass-superclass.ensures in
    let it = found (ids_of c.args.self.now.table.entries) c.superclass-superclass.result c.in-Some.found
    (sym c.in-Some.ensures) in
    (it.below, it.is ∙ is)

pub returns-in-None : goal.returns-in-None
returns-in-None g c = λ heap super are under.
    let is : c.superclass-superclass.result ≡ super = read_super c.args.self.now.view heap c.args.self.now.table.entries
    c.args.number c.class_place.result super c.superclass-superclass.result are c.requires.below c.class_place.ensures
    under
    c.superclass-superclass.ensures in (
      λ e. omega (arith, is, e),
      subst (λ (id : ℕ). class_named heap id ≡ None) is (not_found _ _ _ _ are (sym c.in-None.ensures)),
    )
