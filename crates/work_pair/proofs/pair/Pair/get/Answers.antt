-- The last object of the list, or else one of the first buffer, is taken without a trade. If neither has one, nothing
-- has changed when `get_elsewhere` begins. The effect of `get_elsewhere` on the buffers is one on the pair.
use Rattle.std.proofs.Common.{◌∙◌, [], ◌∷◌, Ok, Some, length, ap, refl, sym, arith}
use Rattle.std.proofs.lemmas.List.{append-nil}
use Rattle.work_pair.specs.PairState.{PairState}
use Rattle.work_pair.specs.declared.buffers.Buffers.{Buffers}
use Rattle.work_pair.proofs.Calls.{none_last}
use Rattle.work_pair.proofs.Getting.{got}
use Rattle.work_pair.proofs.Locals.{taken_first}
use Rattle.work_pair.proofs.Pairs.{get_stops, gets_told, got_told, may_trade, none_told, still_going, takes_last}
use Rattle.work_pair.proofs.Trading.{none_in, untouched}
use Rattle.work_pair.proofs.pair.Pair.get.Goals as goal

pub get_elsewhere-result-requires : goal.get_elsewhere-result-requires
get_elsewhere-result-requires g c =
    rw c.in_default-take_at.ensures.1
    (may_trade c.self.inside c.self.view_is c.requires.pool c.requires.going c.requires.backed c.requires.busy)

pub returns-in-Some-clause-got : goal.returns-in-Some-clause-got
returns-in-Some-clause-got g c =
    takes_last c.self.inside c.self.view_is c.pop.new.self c.in-Some.object c.in-Some.ensures.items
    c.requires.going c.args.worker.now.book c.requires.backed

pub returns-in-Some-take_at-clause-got : goal.returns-in-Some-take_at-clause-got
returns-in-Some-take_at-clause-got g c =
    let i = c.self.inside in
    let n = c.pop.new.self in
    let b = c.args.worker.now.book in
    let m = i.buffers in
    let position = c.take_at.new.position in
    let o = c.in-Some-take_at.object in
    let may = may_trade i c.self.view_is {w = c.args.worker.now} c.requires.pool c.requires.going c.requires.backed
    c.requires.busy in
    let left : Buffers _ = record m { first = position } in
    let told = got may.backed m (untouched may.backed.sized) may.third [] (refl, refl, refl) left o
    (taken_first m.first m.second m.third position o c.in-Some-take_at.ensures) in
    got_told i c.self.view_is b left b c.requires.backed n (sym (c.in_default.ensures.items ∙ append-nil n))
    (Ok (Some o)) (still_going i c.self.view_is c.requires.going) told

pub returns-in-Some-take_at-clause-gets : goal.returns-in-Some-take_at-clause-gets
returns-in-Some-take_at-clause-gets g c none =
    let i = c.self.inside in
    let n = c.pop.new.self in
    let b = c.args.worker.now.book in
    let m = i.buffers in
    let position = c.take_at.new.position in
    let o = c.in-Some-take_at.object in
    let may = may_trade i c.self.view_is {w = c.args.worker.now} c.requires.pool c.requires.going c.requires.backed
    c.requires.busy in
    let left : Buffers _ = record m { first = position } in
    let told = got may.backed m (untouched may.backed.sized) may.third [] (refl, refl, refl) left o
    (taken_first m.first m.second m.third position o c.in-Some-take_at.ensures) in
    gets_told i c.self.view_is b left b c.requires.backed n (sym (c.in_default.ensures.items ∙ append-nil n))
    (Ok (Some o)) (still_going i c.self.view_is c.requires.going) told

pub returns-clause-got : goal.returns-clause-got
returns-clause-got g c =
    let m = c.pop.new.self in
    got_told c.self.inside c.self.view_is c.args.worker.now.book c.get_elsewhere-result.new.self
    c.get_elsewhere-result.new.worker.book c.requires.backed m (sym (c.in_default.ensures.items ∙ append-nil m))
    c.get_elsewhere-result.result c.is_err-self-inside.ensures.value
    (rw c.in_default-take_at.ensures.1 at c.get_elsewhere-result.ensures.gets)

pub returns-in-Some-clause-gets : goal.returns-in-Some-clause-gets
returns-in-Some-clause-gets g c none =
    let m = c.pop.new.self in
    let empty = sym c.in-Some.ensures.items ∙ ap (λ (w : PairState). w.spill) c.self.view_is ∙ none in
    absurd (omega (arith, ap length (none_last m (c.in-Some.object ∷ []) empty)))

pub returns-clause-gets : goal.returns-clause-gets
returns-clause-gets g c none =
    let m = c.pop.new.self in
    gets_told c.self.inside c.self.view_is c.args.worker.now.book c.get_elsewhere-result.new.self
    c.get_elsewhere-result.new.worker.book c.requires.backed m (sym (c.in_default.ensures.items ∙ append-nil m))
    c.get_elsewhere-result.result c.is_err-self-inside.ensures.value
    (rw c.in_default-take_at.ensures.1 at c.get_elsewhere-result.ensures.gets)

pub returns-clause-none : goal.returns-clause-none
returns-clause-none g c =
    let m = c.pop.new.self in
    none_told c.self.inside c.self.view_is c.args.worker.now.book c.get_elsewhere-result.new.self
    c.get_elsewhere-result.new.worker.book c.requires.backed m (sym (c.in_default.ensures.items ∙ append-nil m))
    (none_in m (omega (arith, c.in_default.ensures.none))) c.get_elsewhere-result.result
    c.is_err-self-inside.ensures.value
    (rw c.in_default-take_at.ensures.1 at c.get_elsewhere-result.ensures.gets)

pub returns-clause-spent : goal.returns-clause-spent
returns-clause-spent g c =
    let m = c.pop.new.self in
    get_stops c.self.inside c.self.view_is c.args.worker.now.book c.get_elsewhere-result.new.self
    c.get_elsewhere-result.new.worker.book c.requires.backed m (sym (c.in_default.ensures.items ∙ append-nil m))
    c.get_elsewhere-result.result c.is_err-self-inside.ensures.value
    (rw c.in_default-take_at.ensures.1 at c.get_elsewhere-result.ensures.gets)
