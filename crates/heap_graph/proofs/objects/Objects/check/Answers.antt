-- The first part with a fault has the first fault. If no part has one, all objects keep the rules.
use Rattle.std.proofs.Common.{List, Ok, ap, arith, length, min, subst, sym, ℕ, ◌%◌, ◌*◌, ◌+◌, ◌/◌, ◌∙◌, ◌≡◌, ◌≤◌}
use Rattle.std.proofs.lemmas.Result.{IfErr-at_err, IfErr-weaker, IfOk-at_ok, on_ok_weaker}
use Rattle.std.specs.Prelude.{Result}
use Rattle.heap_graph.specs.declared.refusal.LinkFault.{LinkFault}
use Rattle.heap_graph.specs.working.TestedParts.{AreOfParts}
use Rattle.heap_graph.proofs.Parts.{all_linked, next_part, none_first, reaches}
use Rattle.heap_graph.proofs.objects.Objects.check.Goals as goal

pub returns-then-not-splits-clause-linked : goal.returns-then-not-splits-clause-linked
returns-then-not-splits-clause-linked g c =
    on_ok_weaker c.check_part.result (λ fine heap are told. all_linked _ _ _ _ heap _ (omega arith) are
    (fine (omega arith) heap are told (none_first _ heap))) c.check_part.ensures.fine

pub returns-then-not-splits-clause-fault : goal.returns-then-not-splits-clause-fault
returns-then-not-splits-clause-fault g c =
    IfErr-weaker c.check_part.result _ _ (λ f fault heap are told. fault heap are told (none_first _ heap))
    c.check_part.ensures.fault

pub returns-in_default-clause-linked : goal.returns-in_default-clause-linked
returns-in_default-clause-linked g c =
    on_ok_weaker c.check_part-in_default.result (λ fine heap are told. all_linked _ _ _ _ heap _ (omega arith) are
    (fine (omega arith) heap are told (none_first _ heap))) c.check_part-in_default.ensures.fine

pub returns-in_default-clause-fault : goal.returns-in_default-clause-fault
returns-in_default-clause-fault g c =
    IfErr-weaker c.check_part-in_default.result _ _ (λ f fault heap are told. fault heap are told (none_first _ heap))
    c.check_part-in_default.ensures.fault

pub loop-answer-init : goal.loop-answer-init
loop-answer-init g c =
    let parts = c.in-Ok.ensures.parts in
    let o = c.args.self.now in
    let all : c.as_slice-places.result.now ≡ o.places.items = c.as_slice-places.ensures.value in
    let are : AreOfParts o c.first_repeat-repeat.result parts.size c.in-Ok.answers.items =
    record {
      some = parts.some;
      count = subst (λ (xs : List ℕ). length c.in-Ok.answers.items
          ≡ length xs / parts.size + min 1 (length xs % parts.size)) all parts.count;
      each = λ n d below.
          let it = (parts.each n d below).1 in record {
            part = it.argument.now;
            within = omega (arith, it.argument_is.in_bounds, ap length all);
            long = omega (arith, it.argument_is.len, ap length all);
            tested = it.call;
          };
    } in (
      parts.size,
      subst (λ (xs : List (Result (Unit {0}) LinkFault)). AreOfParts o c.first_repeat-repeat.result parts.size xs)
          (sym c.deref-answer-items.ensures.value) are,
      record { fine = λ heap are told k rule h f. absurd (omega (arith, h)); first = omega arith },
    )

pub returns-in-Err-clause-fault : goal.returns-in-Err-clause-fault
returns-in-Err-clause-fault g c = λ heap are told.
    let (size, parts, now) = c.loop-answer.invariant in
    let n = c.loop-answer.answer-index in
    let part = parts.each n (Ok tt) (omega arith) in
    IfErr-at_err _ c.in-Err.is part.tested.fault heap are told
    (λ k rule h f. now.fine heap are told k rule (omega (arith, h, part.within)) f)

pub loop-answer-preserved : goal.loop-answer-preserved
loop-answer-preserved g c =
    let (size, parts, now) = c.loop-answer.invariant in
    let n = c.loop-answer.answer-index in
    let o = c.args.self.now in
    let part = parts.each n (Ok tt) (omega arith) in
    let to = n * size + length part.part in
    let before : n * size ≤ c.first_repeat-repeat.result = omega (arith, part.within, now.first) in
    let ends : min ((n + 1) * size) (length o.places.items) ≡ to =
    omega (arith, next_part n size, part.long, part.within) in (
      size,
      parts,
      record {
        fine = λ heap are told k rule h f. IfOk-at_ok _ c.in_default-answer.is part.tested.fine before heap are told
            (λ i other l b. now.fine heap are told i other (omega (arith, l, part.within)) b) k rule
            (omega (arith, h, ends)) f;
        first = let last = IfOk-at_ok _ c.in_default-answer.is part.tested.first before in omega (arith, ends, last);
      },
    )

pub returns-clause-linked : goal.returns-clause-linked
returns-clause-linked g c = λ heap are told.
    let (size, parts, now) = c.loop-answer.invariant in
    let end = reaches c.loop-answer.answer-index (length c.args.self.now.places.items) size parts.some
    (omega (arith, parts.count, c.loop-answer-test.false)) in
    all_linked _ _ _ _ heap _ (omega (arith, end)) are (now.fine heap are told)
