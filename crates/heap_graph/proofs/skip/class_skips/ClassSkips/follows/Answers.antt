-- A field of type 2 is followed unless the list has it.
use Rattle.std.proofs.Common.{Bool, ap, false, not, refl, sym, true, ℕ, ◌&&◌, ◌==◌, ◌∙◌, ◌≡◌}
use Rattle.hprof_grammar.specs.MemberFields.{member_of}
use Rattle.heap_graph.proofs.skip.class_skips.ClassSkips.follows.Goals as goal

list_decides : (has skips : Bool) (type : ℕ) → type ≡ 2 → has ≡ skips → not has ≡ (not skips && (type == 2))
list_decides has true type is e = ap not e
list_decides has false type is e = ap not e ∙ sym (ap (λ (t : ℕ). t == 2) is)

pub returns-then-field-eq-OBJECT_TYPE : goal.returns-then-field-eq-OBJECT_TYPE
returns-then-field-eq-OBJECT_TYPE g c = λ test is.
    let field = c.args.field in
    list_decides c.has.result (test (member_of field)) field.type_code c.if-field-eq-OBJECT_TYPE.true
    (c.has.ensures test (member_of field) is refl)
