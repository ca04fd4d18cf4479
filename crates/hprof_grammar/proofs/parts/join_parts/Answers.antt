-- A part that begins at the end of the one before joins it. At the end of the bytes all records have joined.
use Rattle.std.proofs.Common.{All, arith, subst, suc, sym, ◌∙◌}
use Rattle.hprof_grammar.specs.working.Parts.{MayBePart}
use Rattle.hprof_grammar.proofs.PartsJoin.{all_joined, none_joined, part_joins, same_seam}
use Rattle.hprof_grammar.proofs.parts.join_parts.Goals as goal

pub loop-part-init : goal.loop-part-init
loop-part-init g c = (
  none_joined c.args.bytes.now c.args.id_size c.new-dump.result c.new-dump.ensures,
  subst (λ xs. All (MayBePart c.args.bytes.now c.args.id_size) xs)
      (sym c.into_iter-part-iterator.ensures.into_iter_gives.0) c.requires.parts,
)

pub loop-part-preserved : goal.loop-part-preserved
loop-part-preserved g c =
    let text = c.args.bytes.now in
    let s = c.args.id_size in
    let now = c.loop-part.invariant in
    let answers = subst (λ xs. All (MayBePart text s) xs) c.in-Some.ensures.steps.0 now.1 in
    let is = subst (MayBePart text s) c.in_ok-part.was (answers 0 c.in-Some.part (omega arith)) in
    let begins = same_seam c.in_ok-part.part.from c.loop-part.reached (sym c.if-ne.ensures) in (
      part_joins c.in_ok-part.part now.0 is begins c.in-Ok.ensures c.requires.room,
      λ k d below. answers (suc k) d (omega (arith, below)),
    )

pub overflow_cast-reached : goal.overflow_cast-reached
overflow_cast-reached g c = omega (arith, c.loop-part.invariant.0.fits)

pub returns : goal.returns
returns g c =
    all_joined c.loop-part.invariant.0 c.if-reached-bytes.false (sym c.is_done.ensures ∙ c.if-not-is_done.false)
