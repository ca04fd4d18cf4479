-- If the granule is above all others of the last extent, it is set there. Else the object begins an extent.
use Rattle.std.proofs.Common.{List, [], ap, arith, ℕ, ◌++◌, ◌∙◌, ◌∷◌}
use Rattle.id_index.proofs.Built.{begins, joins, may_add}
use Rattle.id_index.proofs.extent_index_builder.ExtentIndexBuilder.push.Goals as goal

pub overflow_add-self : goal.overflow_add-self
overflow_add-self g c = omega (arith, may_add _ _ _ c.self.invariant _ c.self.view_is c.requires)

pub overflow_add-self-2 : goal.overflow_add-self-2
overflow_add-self-2 g c = omega (arith, may_add _ _ _ c.self.invariant _ c.self.view_is c.requires)

-- ---- the object joins the last extent

pub invariant_of-self : goal.invariant_of-self
invariant_of-self g c =
    (joins _ _ _ c.self.invariant c.args.id (may_add _ _ _ c.self.invariant _ c.self.view_is c.requires)
    c.in-Some.extent c.in-Some.is (omega (arith, c.if-extent-page.true)) (omega (arith, c.if-extent-bit.true))).0

pub returns-then-extent-bit : goal.returns-then-extent-bit
returns-then-extent-bit g c =
    (joins _ _ _ c.self.invariant c.args.id (may_add _ _ _ c.self.invariant _ c.self.view_is c.requires)
    c.in-Some.extent c.in-Some.is (omega (arith, c.if-extent-page.true)) (omega (arith, c.if-extent-bit.true))).1
    ∙ ap (λ (xs : List ℕ). xs ++ c.args.id ∷ []) c.self.view_is

-- ---- the object begins an extent

pub invariant_of-self-2 : goal.invariant_of-self-2
invariant_of-self-2 g c =
    (begins _ _ _ c.self.invariant c.args.id (may_add _ _ _ c.self.invariant _ c.self.view_is c.requires)
    c.close.new.extents.items c.in_ok-close.ensures.extents).0

pub returns : goal.returns
returns g c =
    (begins _ _ _ c.self.invariant c.args.id (may_add _ _ _ c.self.invariant _ c.self.view_is c.requires)
    c.close.new.extents.items c.in_ok-close.ensures.extents).1
    ∙ ap (λ (xs : List ℕ). xs ++ c.args.id ∷ []) c.self.view_is
