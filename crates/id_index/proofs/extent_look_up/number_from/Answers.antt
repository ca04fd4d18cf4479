-- Pages rise, so after an extent of another page no extent is of this page. The numbers of an extent fit 32 bits.
use Rattle.id_index.proofs.Words.{arith, cases_lt, inl, inr, length}
use Rattle.id_index.proofs.Bearers.{none_behind, none_past}
use Rattle.id_index.proofs.extent_look_up.number_from.Goals as goal

pub returns-then-extent-page-clause-first : goal.returns-then-extent-page-clause-first
returns-then-extent-page-clause-first c =
    none_behind c.args.extents.now c.args.id c.args.from c.loop-at.at c.requires.extents c.requires.from
    c.loop-at.auto.at (omega arith) c.loop-at.invariant c.if-extent-page.true

pub returns-clause-first : goal.returns-clause-first
returns-clause-first c =
    none_past c.args.extents.now c.args.id c.args.from c.loop-at.at c.requires.extents c.requires.few c.requires.from
    (elim (cases_lt c.loop-at.at (length c.args.extents.now)) [
      | inl less ↦ inr (omega arith)
      | inr whole ↦ inl whole
    ]) c.loop-at.invariant
