-- The loaded head is still the stack's, so its buffer is on top and has a slot, and the link fits into the next head.
use Rattle.std.proofs.Common.{◌≡◌, ℕ, List, Option, get_or, ap, sym, subst, refl, arith, ◌∙◌}
use Rattle.tagged_index.specs.Head.{Head}
use Rattle.mark_core.specs.StepCall.{IsLawful}
use Rattle.mark_core.proofs.Vectors.{tries_pop, pop_told}
use Rattle.mark_core.proofs.Within.{buffer_within, link_within}
use Rattle.mark_core.proofs.state.State.pop.Goals as goal

pub exchange-requires : goal.exchange-requires
exchange-requires g c =
    let lawful = subst IsLawful (sym c.self.view_is) c.requires.lawful in
    let there = rw (← c.self.view_is) at c.requires.there in
    let now = rw (← c.self.view_is) at c.head-now.ensures in
    let asked = c.index-account.result.now in
    let told =
    pop_told _ asked c.args.which c.in-Some.buffer c.in-Some-link.link c.look-look.result c.head-now.result
    c.look-look.ensures now
    (c.if-not-shows.ensures.0 refl) (sym c.index.ensures.same ∙ c.in-Some.is) (sym c.link.ensures ∙ c.in-Some-link.is)
    (c.if-not-is_busy.ensures.0 refl)
    in
    link_within _ lawful c.args.w asked there c.index-account.ensures c.args.which c.in-Some.buffer
    c.in-Some-link.link told.shows told.top told.link

pub index_mut-requires : goal.index_mut-requires
index_mut-requires g c =
    let lawful = subst IsLawful (sym c.self.view_is) c.requires.lawful in
    let now = rw (← c.self.view_is) at c.head-now.ensures in
    omega (
      arith,
      buffer_within _ lawful c.args.which c.in-Some.buffer
          (sym (ap (λ (h : Head). h.index) now) ∙ sym c.index.ensures.same ∙ c.in-Some.is),
    )

pub returns-clause-done : goal.returns-clause-done
returns-clause-done g c =
    let lawful = subst IsLawful (sym c.self.view_is) c.requires.lawful in
    let there = rw (← c.self.view_is) at c.requires.there in
    let now = rw (← c.self.view_is) at c.head-now.ensures in
    let asked = c.index-account.result.now in
    let told =
    pop_told _ asked c.args.which c.in-Some.buffer c.in-Some-link.link c.look-look.result c.head-now.result
    c.look-look.ensures now
    (c.if-not-shows.ensures.0 refl) (sym c.index.ensures.same ∙ c.in-Some.is) (sym c.link.ensures ∙ c.in-Some-link.is)
    (c.if-not-is_busy.ensures.0 refl)
    in
    let inside = buffer_within _ lawful c.args.which c.in-Some.buffer told.top in
    let slot = subst (λ (x : Option (List ℕ)). x ≡ get_or c.self.inside.slots.items c.in-Some.buffer x)
    (sym c.take-slot.ensures.value) c.index_mut.ensures.value in
    rw (← c.self.view_is)
    (tries_pop _ c.args.w asked c.index_mut-2.result.now c.pop.new.self there c.index-account.ensures
    c.index_mut-2.ensures.value c.args.which c.in-Some.buffer c.in-Some-link.link inside told
    c.take-slot.result _ slot c.take-slot.ensures.after c.in_ok-pop.ensures c.exchange.result c.exchange.new.self
    c.exchange.ensures.low c.exchange.ensures.next)
