-- The extents describe the objects, so the first extent with an identifier has the first object that bears it.
use Rattle.id_index.proofs.Words.{IsFirstBearer, List, Extent, ap, ids_of_extents, position, subst, take, ℕ, ◌==◌, ◌∙◌}
use Rattle.id_index.proofs.Bearers.{named}
use Rattle.id_index.proofs.extent_index.ExtentIndex.look_up.Goals as goal

pub returns : goal.returns
returns g c =
    let i = c.self.inside in
    let it : IsFirstBearer (take i.kept i.extents.items) c.args.id c.first_bearer.result.number =
    subst (λ (ls : List Extent). IsFirstBearer (take i.kept ls) c.args.id c.first_bearer.result.number)
    c.deref.ensures.value c.first_bearer.ensures.first in
    named (take i.kept i.extents.items) (ids_of_extents i.extents.items i.count) c.args.id c.first_bearer.result.number
    c.self.invariant.extents c.self.invariant.tell it
    ∙ ap (λ (ids : List ℕ). position (λ x. x == c.args.id) ids) c.self.view_is
