-- Finished objects are skipped, a word at a time, until one that is not finished is found.
use Rattle.std.proofs.Common.{◌≡◌, ◌≢◌, ◌<◌, ◌≤◌, ◌==◌, ◌∙◌, ℕ, Bool, List, true, false, length, not, slice_index, ap}
use Rattle.std.proofs.Common.{sym, arith, eq-eqb, ne_eqb}
use Rattle.buffer_pool.proofs.Finding.{finds, finds_none, skips_to}
use Rattle.buffer_pool.proofs.pool.closed_marks.Marks.next_unfinished.Goals as goal

-- tests whether object o is not finished
abbrev unfinished : List ℕ → ℕ → Bool
unfinished marks o = not (slice_index marks o == 2)

passed : (marks : List ℕ) (o : ℕ) → slice_index marks o ≡ 2 → unfinished marks o ≡ false
passed marks o two = ap not (eq-eqb (slice_index marks o) 2 two)

stops : (marks : List ℕ) (o : ℕ) → slice_index marks o ≢ 2 → unfinished marks o ≡ true
stops marks o other = ap not (ne_eqb (slice_index marks o) 2 other)

pub returns-in-Some : goal.returns-in-Some
returns-in-Some g c =
    let marks = c.args.self.now in
    let first = c.in-Some.ensures.found in
    let below : c.in-Some.found < length marks = omega (arith, c.if-found-objects.true, c.len-objects.ensures) in
    sym (c.loop-object.invariant
    ∙ skips_to (unfinished marks) c.loop-object.object c.in-Some.found (length marks) first.behind
    (λ o from to inside. passed marks o (first.before o from to inside))
    ∙ finds (unfinished marks) c.in-Some.found (length marks) below (stops marks c.in-Some.found (first.here below)))

pub returns-in-Some-2 : goal.returns-in-Some-2
returns-in-Some-2 g c =
    let marks = c.args.self.now in
    let first = c.in-Some.ensures.found in
    let past : length marks ≤ c.in-Some.found = omega (arith, c.if-found-objects.false, c.len-objects.ensures) in
    sym (c.loop-object.invariant
    ∙ skips_to (unfinished marks) c.loop-object.object c.in-Some.found (length marks) first.behind
    (λ o from to inside. passed marks o (first.before o from to inside))
    ∙ finds_none (unfinished marks) c.in-Some.found (length marks) past)

pub loop-object-preserved : goal.loop-object-preserved
loop-object-preserved g c =
    let marks = c.args.self.now in
    let object = c.loop-object.object in
    let next = c.saturating_add-object in
    c.loop-object.invariant
    ∙ skips_to (unfinished marks) object next.result (length marks)
    (omega (arith, next.ensures, c.loop-object-test.true))
    (λ o from to inside. passed marks o (c.in-None.ensures.none o from (omega (arith, to, next.ensures)) inside))
