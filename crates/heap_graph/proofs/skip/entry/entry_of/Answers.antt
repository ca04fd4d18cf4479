-- An entry that the piece spells is cut at its last dot, so it has these parts.
use Rattle.std.proofs.Common.{◌∙◌}
use Rattle.heap_graph.proofs.SkipCutting.{entry_from, no_entry, none_from, only_parts, parted, some_from}
use Rattle.heap_graph.proofs.skip.entry.entry_of.Goals as goal
use Rattle.heap_graph.proofs.skip.entry.entry_of.Goals.{then-is_empty-via-then-is_empty}
use Rattle.heap_graph.proofs.skip.entry.entry_of.Goals.{then-is_empty-via-else-is_empty+then-is_empty-2}

pub returns-in_err-class-clause-none : goal.returns-in_err-class-clause-none
returns-in_err-class-clause-none c =
    rw c.from_residual.ensures (no_entry c.args.piece.now c.in_err-class.ensures.cases)

pub returns-then-is_empty-clause-none : goal.returns-then-is_empty-clause-none
returns-then-is_empty-clause-none c =
    let class = c.in_ok-class.class.now in
    let field = c.in_ok-class.field.now in
    let is = parted c.args.piece.now class field c.in_ok-class.ensures.cases in
    λ e entry spelled.
    let parts = only_parts c.args.piece.now class field is e entry spelled in
    elim c.then-is_empty.branch [
      | then-is_empty-via-then-is_empty w ↦
          entry.some_class (parts.0 ∙ none_from class c.is_empty.result c.is_empty.ensures w.if-is_empty.true)
      | then-is_empty-via-else-is_empty+then-is_empty-2 w ↦
          let second = w.is_empty-else-is_empty in
          entry.some_field (parts.1 ∙ none_from field second.result second.ensures w.if-is_empty-2.true)
    ]

pub returns-clause-entry : goal.returns-clause-entry
returns-clause-entry c =
    let class = c.in_ok-class.class.now in
    let field = c.in_ok-class.field.now in
    let is = parted c.args.piece.now class field c.in_ok-class.ensures.cases in
    let second = c.is_empty-else-is_empty in
    entry_from c.args.piece.now class field is c.requires
    (some_from class c.is_empty.result c.is_empty.ensures c.if-is_empty.false)
    (some_from field second.result second.ensures c.if-is_empty-2.false)
    (record { class = c.as_bytes.result.now; field = c.as_bytes-2.result.now })
    c.as_bytes.ensures.value c.as_bytes-2.ensures.value
