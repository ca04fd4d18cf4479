-- Before the beginning of a bucket are the extents of earlier ones, so the next beginning is looked for from there on.
use Rattle.id_index.proofs.Words.{IsBeginning, List, [], ap, arith, bucket_of, length, length-append, page_in}
use Rattle.id_index.proofs.Words.{slice_index, subst, sym, ℕ, ◌++◌, ◌<◌, ◌∷◌, ◌≡◌}
use Rattle.id_index.proofs.Buckets.{one_more}
use Rattle.id_index.proofs.beginnings.Beginnings.of.Goals as goal

pub loop-bucket-preserved : goal.loop-bucket-preserved
loop-bucket-preserved g c =
    let extents = c.args.extents.now in
    let least = c.ends_of-least.result.0 in
    let shift = c.shift_for-shift.result in
    let bucket = c.loop-bucket.bucket in
    let starts = c.loop-bucket.starts.items in
    let pushed : c.push.new.self.items ≡ starts ++ c.start_of-at.result ∷ [] = c.in_ok-push.ensures.items in
    record {
      within = c.start_of-at.ensures.within;
      passed = λ k h. let less : bucket_of least shift (page_in extents k) < bucket =
          c.start_of-at.ensures.before k h in
          omega (arith, less);
      count = omega (
        arith,
        ap (λ (xs : List ℕ). length xs) pushed,
        length-append starts (c.start_of-at.result ∷ []),
        c.loop-bucket.invariant.count,
      );
      each = λ b h. subst (λ (xs : List ℕ). IsBeginning extents least shift b (slice_index xs b)) (sym pushed)
          (one_more extents least shift bucket c.start_of-at.result starts c.loop-bucket.invariant.count
          c.start_of-at.ensures c.loop-bucket.invariant.each b h);
    }
