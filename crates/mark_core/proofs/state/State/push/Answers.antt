-- A held buffer is one of the setup's, since the state is lawful: it has a slot, and its number fits into a head.
use Rattle.std.proofs.Common.{◌≡◌, sym, subst, refl, arith}
use Rattle.mark_core.specs.StepCall.{IsLawful}
use Rattle.mark_core.proofs.Vectors.{tries_push, push_within}
use Rattle.mark_core.proofs.state.State.push.Goals as goal

pub exchange-requires : goal.exchange-requires
exchange-requires g c = λ x e.
    let within = push_within _ c.args.w c.requires.lawful c.requires.there c.args.which c.args.buffer c.args.items
    (c.if-not-may_push.ensures.0 refl) in
    let same : c.args.buffer ≡ x = cc e in
    omega (arith, within, c.requires.lawful.few)

pub index_mut-requires-2 : goal.index_mut-requires-2
index_mut-requires-2 g c =
    let lawful = subst IsLawful (sym c.self.view_is) c.requires.lawful in
    let there = rw (← c.self.view_is) at c.requires.there in
    let may = rw (← c.self.view_is) at (c.if-not-may_push.ensures.0 refl) in
    omega (arith, push_within _ c.args.w lawful there c.args.which c.args.buffer c.args.items may, lawful.slots)

pub returns : goal.returns
returns g c =
    let there = rw (← c.self.view_is) at c.requires.there in
    let may = rw (← c.self.view_is) at (c.if-not-may_push.ensures.0 refl) in
    let pushed = rw c.as_slice.ensures at (c.if-not-push.ensures) in
    let changed = c.index_mut.result.now in
    rw (← c.self.view_is)
    (tries_push _ c.args.w changed changed c.push.new.self there c.index_mut.ensures.value c.index_mut.ensures.value
    c.args.which c.args.buffer c.args.items may (pushed.part.0 refl) pushed.pushed
    c.exchange.result c.exchange.new.self c.exchange.ensures.low c.exchange.ensures.next)
