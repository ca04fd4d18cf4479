-- A cut that is noted begins at the last seam. It is long enough, or the last one.
use Rattle.std.proofs.Common.{[], arith, length, refl, subst, sym, List, ◌++◌, ◌+◌, ◌-◌, ◌<◌, ◌∷◌, ◌≡◌, ◌≤◌}
use Rattle.hprof_grammar.specs.declared.cuts.Cut.{Cut}
use Rattle.hprof_grammar.specs.working.Cuts.{AreCuts}
use Rattle.hprof_grammar.proofs.CutsGrow.{AreLong, and_the_last, one_more}
use Rattle.hprof_grammar.proofs.cuts.cut_records.Goals as goal
use Rattle.hprof_grammar.proofs.cuts.cut_records.Goals.{then-is_empty-via-then-is_empty}
use Rattle.hprof_grammar.proofs.cuts.cut_records.Goals.{then-is_empty-via-else-is_empty+then-saturating_sub-size}

pub loop-rest-preserved-in-loop-rest : goal.loop-rest-preserved-in-loop-rest
loop-rest-preserved-in-loop-rest g c =
    let now = c.loop-rest.invariant in
    let from = c.loop-rest.from in
    let bytes = length c.args.bytes.now in
    let to = 31 + (bytes - length c.in_ok-tag.behind.now) in
    let cut : Cut = record { from = from; to = to } in
    let some : 0 < length c.loop-rest.rest.now =
    grind (arith, c.is_empty.ensures, c.loop-rest-test.ensures, c.loop-rest-test.true) in
    let less = c.in_ok-tag.ensures in
    let long = now.3 some in
    let noted : c.push.new.self.items ≡ c.loop-rest.cuts.items ++ cut ∷ [] =
    grind (arith, c.push.ensures.items, c.in_ok-ok.was, c.ok.ensures.value) in (
      omega (arith, less, now.0),
      omega arith,
      omega (arith, less, now.0),
      λ left. elim c.then-is_empty.branch [
        | then-is_empty-via-then-is_empty w ↦
            absurd (grind (arith, w.if-is_empty.true, w.if-is_empty.ensures, c.is_empty-in-loop-rest.ensures, left))
        | then-is_empty-via-else-is_empty+then-saturating_sub-size w ↦
            let room : from.place + c.args.size ≤ to =
            grind (arith, w.saturating_sub.ensures, w.if-saturating_sub-size.true, now.1, now.2, less) in
            subst (λ (cuts : List Cut). AreLong c.args.size 31 cuts to) (sym noted)
            (one_more c.args.size 31 from.place c.loop-rest.cuts.items cut long refl room)
      ],
      λ empty.
          let at_end : to ≡ 31 + bytes = omega (arith, empty) in
          subst (λ (cuts : List Cut). AreCuts c.args.size 31 cuts (31 + bytes)) (sym noted)
          (subst (AreCuts c.args.size 31 (c.loop-rest.cuts.items ++ cut ∷ [])) at_end
          (and_the_last c.args.size 31 from.place c.loop-rest.cuts.items cut long refl
          (omega (arith, now.0, now.1, now.2, less)))),
    )
