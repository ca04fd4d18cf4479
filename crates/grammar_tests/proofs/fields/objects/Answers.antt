-- The class, the instance and the arrays are in both dumps, by computation.
use Rattle.std.proofs.Common.{refl}
use Rattle.hprof_grammar.specs.TagsAndTypes.{is_type_at, size_of}
use Rattle.grammar_tests.proofs.Computed.{seen}
use Rattle.grammar_tests.proofs.TestDumps.{the_class, the_instance, the_objects, the_shorts}
use Rattle.grammar_tests.proofs.fields.objects.Goals as goal

pub has_class-requires : goal.has_class-requires
unfolding is_type_at size_of
has_class-requires g c =
    let view = c.new-with_four in
    (the_class 4, seen view.result view.ensures.bytes view.ensures.size refl refl)

pub has_objects-requires-clause-instance : goal.has_objects-requires-clause-instance
has_objects-requires-clause-instance g c =
    let view = c.new-with_four in
    (the_instance 4, seen view.result view.ensures.bytes view.ensures.size refl refl)

pub has_objects-requires-clause-objects : goal.has_objects-requires-clause-objects
has_objects-requires-clause-objects g c =
    let view = c.new-with_four in
    (the_objects, seen view.result view.ensures.bytes view.ensures.size refl refl)

pub has_objects-requires-clause-shorts : goal.has_objects-requires-clause-shorts
unfolding is_type_at size_of
has_objects-requires-clause-shorts g c =
    let view = c.new-with_four in
    (the_shorts, seen view.result view.ensures.bytes view.ensures.size refl refl)

pub has_class-requires-2 : goal.has_class-requires-2
unfolding is_type_at size_of
has_class-requires-2 g c =
    let view = c.new-with_eight in
    (the_class 8, seen view.result view.ensures.bytes view.ensures.size refl refl)

pub has_objects-requires-2-clause-instance : goal.has_objects-requires-2-clause-instance
has_objects-requires-2-clause-instance g c =
    let view = c.new-with_eight in
    (the_instance 8, seen view.result view.ensures.bytes view.ensures.size refl refl)

pub has_objects-requires-2-clause-objects : goal.has_objects-requires-2-clause-objects
has_objects-requires-2-clause-objects g c =
    let view = c.new-with_eight in
    (the_objects, seen view.result view.ensures.bytes view.ensures.size refl refl)

pub has_objects-requires-2-clause-shorts : goal.has_objects-requires-2-clause-shorts
unfolding is_type_at size_of
has_objects-requires-2-clause-shorts g c =
    let view = c.new-with_eight in
    (the_shorts, seen view.result view.ensures.bytes view.ensures.size refl refl)
