-- All four dumps of objects have the stack trace after the identifier.
use Rattle.std.proofs.Common.{Some, ap, sym, ◌∙◌}
use Rattle.hprof_grammar.proofs.FieldsStand.{stack_trace}
use Rattle.hprof_grammar.proofs.view.View.stack_trace.Goals as goal

pub u32_at-requires : goal.u32_at-requires
u32_at-requires c = (stack_trace c.self.view_is c.requires.2 c.requires.1).there.room

pub returns : goal.returns
returns c = λ sub h is.
    let trace = stack_trace c.self.view_is is h in
    trace.is ∙ ap Some (sym (c.u32_at.ensures ∙ trace.there.value))
