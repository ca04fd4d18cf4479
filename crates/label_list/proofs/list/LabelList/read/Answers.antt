-- Each turn reads a line. If nothing is left the list is whole; if no line can be read the next one is bad.
use Rattle.std.proofs.Common.{[], ap, arith, length, rules, ◌++◌, ◌∙◌, ◌∷◌, ◌≡◌}
use Rattle.label_list.proofs.Counts.{line_is_few}
use Rattle.label_list.proofs.Lists.{first_bad, is_none, is_some, read_all, read_on, shorter}
use Rattle.label_list.proofs.list.LabelList.read.Goals as goal

pub returns-in_default-clause-bad : goal.returns-in_default-clause-bad
returns-in_default-clause-bad g c =
    let rest = c.loop-scanner.scanner.rest.now in
    let entries = c.loop-scanner.list in
    let some = is_some rest c.is_empty.result c.is_empty.ensures c.loop-scanner-test.true in
    let count : c.len.result ≡ length entries =
    c.len.ensures ∙ c.list.inside.entries.ok.0 ∙ ap length c.list.view_is in
    first_bad entries c.args.text.now rest _ c.loop-scanner.invariant some c.in_default.ensures
    (omega (arith, count))

pub push-requires : goal.push-requires
push-requires g c =
    line_is_few c.loop-scanner.scanner.rest.now c.line.new.self.rest.now c.in-Some.entry c.in-Some.ensures

pub loop-scanner-smaller : goal.loop-scanner-smaller
loop-scanner-smaller g c =
    shorter c.loop-scanner.scanner.rest.now c.line.new.self.rest.now c.in-Some.entry c.in-Some.ensures

pub loop-scanner-preserved : goal.loop-scanner-preserved
loop-scanner-preserved g c =
    let entries = c.loop-scanner.list in
    let pushed : c.push.new.self ≡ entries ++ c.in-Some.entry ∷ [] = search rules in
    rw pushed
    (read_on entries c.args.text.now c.loop-scanner.scanner.rest.now c.line.new.self.rest.now c.in-Some.entry
    c.loop-scanner.invariant c.in-Some.ensures)

pub returns-clause-list : goal.returns-clause-list
returns-clause-list g c =
    let rest = c.loop-scanner.scanner.rest.now in
    read_all c.loop-scanner.list c.args.text.now rest c.loop-scanner.invariant
    (is_none rest c.is_empty.result c.is_empty.ensures c.loop-scanner-test.false)
