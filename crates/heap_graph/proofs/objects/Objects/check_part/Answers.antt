-- No object before breaks a rule, so the first that is found to break one has the first fault. Else all keep the rules.
use Rattle.heap_graph.proofs.Words.{Some, ap, arith, slice_get-get_or, sym, ℕ, ◌∙◌}
use Rattle.heap_graph.proofs.Testing.{none_before}
use Rattle.heap_graph.proofs.objects.Objects.check_part.Goals as goal

pub loop-number-init : goal.loop-number-init
loop-number-init g c = record { fine = λ heap are told fine. fine; first = omega arith }

pub returns-then-repeat-start : goal.returns-then-repeat-start
returns-then-repeat-start g c =
    record { first = λ h. omega (arith, h); fine = λ h. absurd (omega (arith, h)); fault = tt }

pub returns-in-Some : goal.returns-in-Some
returns-in-Some g c = record {
  first = tt;
  fine = tt;
  fault = λ heap are told fine. record {
    number = c.loop-number.number;
    rule = c.in-Some.rule;
    first = record {
      here = c.in-Some.ensures.rule heap are told;
      first = λ before other h f. c.loop-number.invariant.fine heap are told fine before other h f;
    };
    code_is = c.code.ensures;
    place_is = slice_get-get_or c.args.self.now.places.items c.loop-number.number c.index.result.now (omega arith)
        ∙ ap (λ (n : ℕ). Some n) (sym (c.from.ensures ∙ c.index.ensures));
  };
}

pub loop-number-preserved : goal.loop-number-preserved
loop-number-preserved g c = record {
  fine = λ heap are told fine. none_before c.args.self.now.view.id_size heap c.loop-number.number
      (c.loop-number.invariant.fine heap are told fine) (c.in_default.ensures.rule heap are told);
  first = omega (arith, c.in_default.ensures.first);
}

pub returns : goal.returns
returns g c = record {
  first = λ h. omega arith;
  fine = λ first heap are told fine k rule h f.
      c.loop-number.invariant.fine heap are told fine k rule (omega (arith, h)) f;
  fault = tt;
}
