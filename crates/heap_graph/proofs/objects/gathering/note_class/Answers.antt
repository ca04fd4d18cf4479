-- An object that is read as a class is a class dump, and its number is noted. Any other object is none.
use Rattle.heap_graph.proofs.Words.{AreClassNumbers, List, None, Some, SubRecord, [], ap, as_class, class_dump, objects}
use Rattle.heap_graph.proofs.Words.{subst, sym, ℕ, ◌++◌, ◌+◌, ◌∙◌, ◌∷◌, ◌≡◌}
use Rattle.std.proofs.lemmas.List.{append_assoc}
use Rattle.heap_graph.proofs.ChainLaws.{some_none}
use Rattle.heap_graph.proofs.ClassNumbersLaws.{noted_more, noted_skip}
use Rattle.heap_graph.proofs.Standings.{IsDumpBy, class_number, is_class_dump, no_class_dump, stands_there}
use Rattle.heap_graph.proofs.objects.gathering.note_class.Goals as goal

pub kind-requires : goal.kind-requires
kind-requires g c =
    let it = stands_there _ _ c.requires.stand.0 _ c.requires.stand.1 c.requires.below in
    (it.object, it.stands, it.describes)

pub returns-in-Class : goal.returns-in-Class
returns-in-Class g c = λ heap before stand noted.
    let it = stands_there _ _ heap _ stand c.requires.below in
    let dump : IsDumpBy class_dump it.object =
    is_class_dump it.object (c.in-Class.ensures it.object it.stands it.describes) in
    let was : List ℕ = c.args.class_dumps.now.items in
    subst (λ (xs : List ℕ). AreClassNumbers (objects heap) (c.args.number + 1) xs)
    (append_assoc before was (c.args.number ∷ [])
    ∙ ap (λ (xs : List ℕ). before ++ xs) (sym c.in_ok-push-in-Class.ensures.items))
    (noted_more (objects heap) c.args.number (before ++ was) noted
    (dump.what, it.is ∙ ap (λ (o : SubRecord). Some o) dump.same))

pub returns-in_default : goal.returns-in_default
returns-in_default g c = λ heap before stand noted.
    let it = stands_there _ _ heap _ stand c.requires.below in
    let none : as_class it.object ≡ None =
    no_class_dump it.object c.kind.result (c.kind.ensures it.object it.stands it.describes) c.in_default.not-Class in
    noted_skip (objects heap) c.args.number (before ++ c.args.class_dumps.now.items) noted
    (λ is. let dump : IsDumpBy class_dump it.object = class_number _ _ _ _ it is in
    some_none (sym (ap as_class dump.same) ∙ none))
