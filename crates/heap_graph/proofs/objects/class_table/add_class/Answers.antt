-- An object with identifier 0 or that of an earlier object is no class that an identifier names. Other classes are
-- added.
use Rattle.heap_graph.proofs.Words.{Contains, Option, Some, Stands, SubRecord, ap, arith, as_class, class_dump}
use Rattle.heap_graph.proofs.Words.{class_named, get_or, ne_eqb, number_named, option_and_then, refl, subst, sym, take}
use Rattle.heap_graph.proofs.Words.{ℕ, ◌∙◌, ◌≡◌}
use Rattle.std.proofs.lemmas.Bool.{iff_false}
use Rattle.hprof_grammar.specs.Dump.{id_of}
use Rattle.heap_graph.proofs.Adding.{on_ok}
use Rattle.heap_graph.proofs.ChainLaws.{some_inj}
use Rattle.heap_graph.proofs.Standings.{IsDumpBy, class_is, class_number, there}
use Rattle.heap_graph.proofs.TableGrowth.{among_more, among_skip, first_number, repeated_linked, repeated_skip}
use Rattle.heap_graph.proofs.TableGrowth.{zero_linked, zero_skip}
use Rattle.heap_graph.proofs.objects.class_table.add_class.Goals as goal

pub object_id-id-requires : goal.object_id-id-requires
object_id-id-requires g c =
    let it = there _ _ _ _ _ c.requires.heap.1 c.requires.below in
    (it.object, it.stands)

pub returns-then-id-eq0-clause-among : goal.returns-then-id-eq0-clause-among
returns-then-id-eq0-clause-among g c = λ heap are is among.
    let it = there _ _ _ _ _ are c.requires.below in
    let zero_id : id_of it.object ≡ 0 = sym (c.object_id-id.ensures it.object it.stands) ∙ c.if-id-eq0.true in
    among_skip c.args.classes.now.view heap c.args.number c.args.classes.now.table.entries it.object among it.is
    (zero_skip heap c.args.number it.object it.is zero_id)
    (λ linked. absurd (zero_linked c.args.classes.now.view.id_size heap c.args.number it.object it.is zero_id linked))

pub returns-then-is_repeated-clause-among : goal.returns-then-is_repeated-clause-among
returns-then-is_repeated-clause-among g c = λ heap are is among.
    let it = there _ _ _ _ _ are c.requires.below in
    let again : Contains (take c.args.number c.args.index.now) (id_of it.object) =
    subst (λ (id : ℕ). Contains (take c.args.number c.args.index.now) id)
    (c.object_id-id.ensures it.object it.stands) (c.if-is_repeated.ensures.0 refl) in
    among_skip c.args.classes.now.view heap c.args.number c.args.classes.now.table.entries it.object among it.is
    (repeated_skip c.args.classes.now.view c.args.places.now _ heap c.args.number it.object are it.is again)
    (λ linked. absurd (repeated_linked _ c.args.places.now _ heap c.args.number it.object are it.is again linked))

pub add-requires-clause-dump : goal.add-requires-clause-dump
add-requires-clause-dump g c =
    let it = there _ _ _ _ _ c.requires.heap.1 c.requires.below in
    let dump = class_number _ _ _ _ it c.requires.heap.2 in (
      dump.what,
      subst (λ (x : SubRecord). Stands c.args.classes.now.view (get_or c.args.places.now c.args.number 0) x)
          dump.same it.stands,
    )

pub add-requires-clause-new : goal.add-requires-clause-new
add-requires-clause-new g c = λ contained.
    let it = there _ _ _ _ _ c.requires.heap.1 c.requires.below in
    let first : number_named c.requires.heap.0 c.object_id-id.result ≡ Some c.args.number =
    first_number c.args.classes.now.view c.args.places.now c.args.index.now c.requires.heap.0 c.args.number
    c.object_id-id.result it.object c.requires.heap.1 it.is (c.object_id-id.ensures it.object it.stands)
    (λ again. iff_false c.is_repeated.ensures c.if-is_repeated.false again) in
    let earlier = c.requires.heap.3.only c.object_id-id.result contained in
    let same : earlier.0 ≡ c.args.number = some_inj (sym earlier.1 ∙ first) in
    omega (arith, earlier.2, same)

pub returns-clause-among : goal.returns-clause-among
returns-clause-among g c = on_ok c.add.result (λ h heap are is among.
    let it = there _ _ _ _ _ are c.requires.below in
    let dump : IsDumpBy class_dump it.object = class_number _ _ _ _ it is in
    let id_is : c.object_id-id.result ≡ id_of it.object = c.object_id-id.ensures it.object it.stands in
    let first : number_named heap c.object_id-id.result ≡ Some c.args.number =
    first_number c.args.classes.now.view c.args.places.now c.args.index.now heap c.args.number
    c.object_id-id.result it.object are it.is id_is
    (λ again. iff_false c.is_repeated.ensures c.if-is_repeated.false again) in
    let here = it.is ∙ ap (λ (x : SubRecord). Some x) dump.same in
    let stands : Stands c.args.classes.now.view (get_or c.args.places.now c.args.number 0) (class_dump dump.what) =
    subst (λ (x : SubRecord). Stands c.args.classes.now.view (get_or c.args.places.now c.args.number 0) x)
    dump.same it.stands in
    let named : class_named heap c.object_id-id.result ≡ Some dump.what =
    class_is heap c.object_id-id.result (Some c.args.number) (ne_eqb c.object_id-id.result 0 c.if-id-eq0.false)
    first ∙ ap (λ (x : Option SubRecord). option_and_then as_class x) here in
    among_more c.args.classes.now.view heap c.args.number c.object_id-id.result
    (get_or c.args.places.now c.args.number 0) c.args.classes.now.table.entries c.add.new.self.table.entries dump.what
    among here (sym (ap id_of dump.same) ∙ sym id_is) first named stands (h dump.what stands)) c.add.ensures.added
