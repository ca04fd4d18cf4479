-- The bits above the lowest ones are looked up if the lowest bits are the common ones.
use Rattle.id_index.proofs.Words.{List, and_mask, ap, arith, bit_and, position, sym, whole_ids, ℕ, ◌%◌, ◌==◌, ◌^◌, ◌∙◌}
use Rattle.id_index.proofs.Words.{◌≡◌}
use Rattle.id_index.specs.Forms.{ids_held}
use Rattle.id_index.specs.declared.index.Form.{Form}
use Rattle.id_index.proofs.Aligning.{found, other_bits}
use Rattle.id_index.proofs.index.IdIndex.look_up.Goals as goal

pub returns-then-id-self : goal.returns-then-id-self
returns-then-id-self g c =
    let i = c.self.inside in
    let masked : bit_and c.args.id i.mask ≡ c.args.id % 2 ^ i.bits.shift =
    rw c.self.invariant.mask (and_mask c.args.id i.bits.shift) in
    c.nothing.ensures.number
    ∙ other_bits i.bits.shift i.bits.low c.self.invariant.low (ids_held i.form) c.args.id
    (λ e. omega (arith, c.if-id-self.true, masked, e))
    ∙ ap (λ (ids : List ℕ). position (λ x. x == c.args.id) ids) c.self.view_is

pub returns-in-Narrow : goal.returns-in-Narrow
returns-in-Narrow g c =
    let i = c.self.inside in
    let masked : bit_and c.args.id i.mask ≡ c.args.id % 2 ^ i.bits.shift =
    rw c.self.invariant.mask (and_mask c.args.id i.bits.shift) in
    found i.bits.shift i.bits.low c.self.invariant.low c.in-Narrow.entries c.args.id c.look_up-in-Narrow.result.number
    (omega (arith, masked, c.if-id-self.false)) c.look_up-in-Narrow.ensures
    ∙ ap (λ (form : Form g.row.A.Denot). position (λ x. x == c.args.id)
    (whole_ids i.bits.shift i.bits.low (ids_held form))) (sym c.in-Narrow.is)
    ∙ ap (λ (ids : List ℕ). position (λ x. x == c.args.id) ids) c.self.view_is

pub returns-in-Extents : goal.returns-in-Extents
returns-in-Extents g c =
    let i = c.self.inside in
    let masked : bit_and c.args.id i.mask ≡ c.args.id % 2 ^ i.bits.shift =
    rw c.self.invariant.mask (and_mask c.args.id i.bits.shift) in
    found i.bits.shift i.bits.low c.self.invariant.low c.in-Extents.extents c.args.id c.look_up.result.number
    (omega (arith, masked, c.if-id-self.false)) c.look_up.ensures
    ∙ ap (λ (form : Form g.row.A.Denot). position (λ x. x == c.args.id)
    (whole_ids i.bits.shift i.bits.low (ids_held form))) (sym c.in-Extents.is)
    ∙ ap (λ (ids : List ℕ). position (λ x. x == c.args.id) ids) c.self.view_is

pub returns-in-Wide : goal.returns-in-Wide
returns-in-Wide g c =
    let i = c.self.inside in
    let masked : bit_and c.args.id i.mask ≡ c.args.id % 2 ^ i.bits.shift =
    rw c.self.invariant.mask (and_mask c.args.id i.bits.shift) in
    found i.bits.shift i.bits.low c.self.invariant.low c.in-Wide.entries c.args.id c.look_up-in-Wide.result.number
    (omega (arith, masked, c.if-id-self.false)) c.look_up-in-Wide.ensures
    ∙ ap (λ (form : Form g.row.A.Denot). position (λ x. x == c.args.id)
    (whole_ids i.bits.shift i.bits.low (ids_held form))) (sym c.in-Wide.is)
    ∙ ap (λ (ids : List ℕ). position (λ x. x == c.args.id) ids) c.self.view_is
