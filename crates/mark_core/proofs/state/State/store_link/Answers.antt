-- A held buffer is one of the setup's, since the state is lawful, so its link can be stored.
use Rattle.std.proofs.Common.{sym, subst, refl, arith}
use Rattle.mark_core.specs.StepCall.{IsLawful}
use Rattle.mark_core.proofs.Vectors.{does_store}
use Rattle.mark_core.proofs.Within.{held_within}
use Rattle.mark_core.proofs.state.State.store_link.Goals as goal

pub index_mut-requires : goal.index_mut-requires
index_mut-requires g c =
    let lawful = subst IsLawful (sym c.self.view_is) c.requires.lawful in
    let there = rw (← c.self.view_is) at c.requires.there in
    let within = held_within _ lawful c.args.w c.index.result.now there c.index.ensures c.args.buffer
    (c.if-not-holds.ensures.0 refl) in
    omega (arith, within, lawful.links)

pub returns : goal.returns
returns g c =
    let lawful = subst IsLawful (sym c.self.view_is) c.requires.lawful in
    let there = rw (← c.self.view_is) at c.requires.there in
    let asked = c.index.result.now in
    let held = c.if-not-holds.ensures.0 refl in
    let within = held_within _ lawful c.args.w asked there c.index.ensures c.args.buffer held in
    rw (← c.self.view_is) (does_store _ c.args.w asked asked asked there c.index.ensures c.index.ensures c.args.buffer
    c.args.link (omega (arith, within, lawful.links)) held)
