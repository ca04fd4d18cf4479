-- If a piece is no entry, or a 65th one, there is no list. Else each turn reads an entry, and the last ends the list.
use Rattle.std.proofs.Common.{[], arith, rules, subst, ◌++◌, ◌∷◌, ◌≡◌}
use Rattle.heap_graph.proofs.SkipCutting.{IsCut, no_list, read_all, read_on, too_many}
use Rattle.heap_graph.proofs.skip.Skip.new.Goals as goal

pub returns-in_default-clause-bad : goal.returns-in_default-clause-bad
returns-in_default-clause-bad g c =
    let entries = c.loop-rest.entries.items in
    let first = c.first_piece in
    λ bad.
    no_list c.args.text.now c.loop-rest.rest.now first.result.0.now first.result.1 entries c.loop-rest.invariant.1
    first.ensures.no_comma first.ensures.whole c.in_default.ensures.none

pub returns-in_default-more-clause-list : goal.returns-in_default-more-clause-list
returns-in_default-more-clause-list g c =
    let rest = c.loop-rest.rest.now in
    let entries = c.loop-rest.entries.items in
    let piece = c.first_piece.result.0.now in
    let entry = c.in-Some.ensures.entry in
    let cut = subst (λ m. IsCut rest piece m) c.in_default-more.is c.first_piece.ensures.whole in
    let pushed : c.push.new.self.items ≡ entries ++ c.in-Some.entry ∷ [] = search rules in
    let read = c.loop-rest.invariant.1 in
    rw pushed
    (read_all c.args.text.now piece entries c.in-Some.entry rest read entry.0 entry.1 cut (omega arith))

pub loop-rest-preserved : goal.loop-rest-preserved
loop-rest-preserved g c =
    let rest = c.loop-rest.rest.now in
    let entries = c.loop-rest.entries.items in
    let piece = c.first_piece.result.0.now in
    let more = c.in-Some-more.behind.now in
    let entry = c.in-Some.ensures.entry in
    let cut = subst (λ m. IsCut rest piece m) c.in-Some-more.is c.first_piece.ensures.whole in
    let pushed : c.push.new.self.items ≡ entries ++ c.in-Some.entry ∷ [] = search rules in
    let read = c.loop-rest.invariant.1 in
    (search rules, rw pushed (read_on c.args.text.now piece more entries c.in-Some.entry rest read entry.0 entry.1 cut))

pub returns-clause-bad : goal.returns-clause-bad
returns-clause-bad g c =
    λ bad.
    too_many c.args.text.now c.loop-rest.rest.now c.loop-rest.entries.items c.loop-rest.invariant.1
    (omega (arith, c.has_room.ensures.full c.loop-rest-test.false))
