-- Identifiers repeat exactly if the bits above their lowest ones do.
use Rattle.id_index.proofs.Words.{IsFirstRepeat, List, ap, subst, sym, whole_ids, ℕ, ◌∙◌}
use Rattle.id_index.specs.Forms.{ids_held}
use Rattle.id_index.specs.declared.index.Form.{Form}
use Rattle.id_index.proofs.Aligning.{repeats}
use Rattle.id_index.proofs.index.IdIndex.first_repeat.Goals as goal

pub returns-in-Narrow : goal.returns-in-Narrow
returns-in-Narrow g c =
    let i = c.self.inside in
    subst (λ (ids : List ℕ). IsFirstRepeat ids c.first_repeat-in-Narrow.result)
    (ap (λ (form : Form g.row.A.Denot). whole_ids i.bits.shift i.bits.low (ids_held form)) (sym c.in-Narrow.is)
    ∙ c.self.view_is)
    (repeats i.bits.shift i.bits.low c.self.invariant.low c.in-Narrow.entries c.first_repeat-in-Narrow.result
    c.first_repeat-in-Narrow.ensures)

pub returns-in-Extents : goal.returns-in-Extents
returns-in-Extents g c =
    let i = c.self.inside in
    subst (λ (ids : List ℕ). IsFirstRepeat ids c.first_repeat.result)
    (ap (λ (form : Form g.row.A.Denot). whole_ids i.bits.shift i.bits.low (ids_held form)) (sym c.in-Extents.is)
    ∙ c.self.view_is)
    (repeats i.bits.shift i.bits.low c.self.invariant.low c.in-Extents.extents c.first_repeat.result c.first_repeat.ensures)

pub returns-in-Wide : goal.returns-in-Wide
returns-in-Wide g c =
    let i = c.self.inside in
    subst (λ (ids : List ℕ). IsFirstRepeat ids c.first_repeat-in-Wide.result)
    (ap (λ (form : Form g.row.A.Denot). whole_ids i.bits.shift i.bits.low (ids_held form)) (sym c.in-Wide.is)
    ∙ c.self.view_is)
    (repeats i.bits.shift i.bits.low c.self.invariant.low c.in-Wide.entries c.first_repeat-in-Wide.result
    c.first_repeat-in-Wide.ensures)
