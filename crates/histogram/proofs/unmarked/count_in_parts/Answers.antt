-- One more part has the next objects.
use Rattle.std.proofs.Common.{◌≡◌, ℕ, ◌%◌, ◌*◌, ◌+◌, ◌/◌, ◌∙◌, ◌≤◌, List, ap, arith, drop, length, min, refl, subst}
use Rattle.std.proofs.Common.{sym, take}
use Rattle.std.proofs.lemmas.Grind.{div_ceil_times}
use Rattle.histogram.specs.declared.unmarked.Unmarked.{Unmarked}
use Rattle.histogram.specs.working.Unmarked.{totals_of}
use Rattle.histogram.proofs.PartTotals.{AreTotalsOfParts, all_counted, next_chunk, none_counted}
use Rattle.histogram.proofs.UnmarkedLaws.{counted_more, more_add_up}
use Rattle.histogram.proofs.unmarked.count_in_parts.Goals as goal

pub loop-part-init : goal.loop-part-init
loop-part-init g c =
    let graph = c.args.graph.now in
    let numbers = c.args.numbers.now in
    let parts = c.in_ok-parts.ensures.parts in
    let are : AreTotalsOfParts graph numbers parts.size c.in_ok-parts.parts.items =
    record {
      some = parts.some;
      count = parts.count;
      each = λ n d below.
          let it = (parts.each n d below).1 in it.call ∙ ap (totals_of graph) it.argument_is.value;
    } in (
      parts.size,
      subst (λ (totals : List Unmarked). AreTotalsOfParts graph numbers parts.size totals)
          (sym c.deref-part-items.ensures.value) are,
      none_counted graph numbers parts.size _ refl,
    )

pub and-left-requires : goal.and-left-requires
and-left-requires g c =
    let graph = c.args.graph.now in
    let numbers = c.args.numbers.now in
    let (size, parts, has) = c.loop-part.invariant in
    let n = c.loop-part.part-index in
    more_add_up graph numbers (drop (n * size) numbers) (take size (drop (n * size) numbers))
    (drop ((n + 1) * size) numbers) c.loop-part.left _ has (next_chunk graph numbers size n)
    (parts.each n _ c.loop-part-test.true) c.len-objects.ensures.whole c.requires

pub loop-part-preserved : goal.loop-part-preserved
loop-part-preserved g c =
    let graph = c.args.graph.now in
    let numbers = c.args.numbers.now in
    let (size, parts, has) = c.loop-part.invariant in
    let n = c.loop-part.part-index in (
      size,
      parts,
      counted_more graph numbers (drop (n * size) numbers) (take size (drop (n * size) numbers))
          (drop ((n + 1) * size) numbers) c.loop-part.left _ has (next_chunk graph numbers size n)
          (parts.each n _ c.loop-part-test.true) c.and-left.result c.and-left.ensures,
    )

pub returns : goal.returns
returns g c =
    let graph = c.args.graph.now in
    let numbers = c.args.numbers.now in
    let (size, parts, has) = c.loop-part.invariant in
    let n = c.loop-part.part-index in
    let all : length numbers / size + min 1 (length numbers % size) ≡ n =
    omega (arith, parts.count, c.loop-part-test.false) in
    let room : length numbers ≤ n * size =
    subst (λ (k : ℕ). length numbers ≤ k * size) all (div_ceil_times (length numbers) size parts.some).0 in
    all_counted graph numbers size n c.loop-part.left has room
