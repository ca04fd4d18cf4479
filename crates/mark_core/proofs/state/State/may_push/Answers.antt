-- The tests of the head, the held buffer, the items, the stack and the link are together what a push requires.
use Rattle.std.proofs.Common.{sym, ap, refl, ◌∙◌}
use Rattle.tagged_index.specs.Head.{Head}
use Rattle.mark_core.proofs.Vectors.{may_push}
use Rattle.mark_core.proofs.state.State.may_push.Goals as goal

pub returns : goal.returns
returns g c =
    let there = rw (← c.self.view_is) at c.requires in
    let now = rw (← c.self.view_is) at c.head-now.ensures in
    let links = rw (← c.self.view_is) at c.links_to.ensures in
    let takes = c.if-not-takes.ensures.0 refl in
    rw (← c.self.view_is) (
      λ yes.
          may_push _ c.args.w c.index-account.result.now there c.index-account.ensures c.args.which c.args.buffer
          c.args.items.now c.look.result c.head-now.result c.look.ensures now
          (c.if-not-shows.ensures.0 refl) (c.if-not-holds.ensures.0 refl) takes.0 takes.1
          (links.0 yes ∙ c.index.ensures.same) (c.if-not-may_push_on.ensures.0 refl),
      λ may. links.1 (may.link ∙ sym (ap (λ (h : Head). h.index) now) ∙ sym c.index.ensures.same),
    )
