-- No object is in its entry: entry 0 has object 1, and all others have object 0.
use native.Mathlib.Decide.{ℕ_discrete}
use Rattle.drain.proofs.Words.{ap, arith, get_or-replicate, get_or-set_other, replicate, slice_index, slice_set, sym, ℕ}
use Rattle.drain.proofs.Words.{◌%◌, ◌<◌, ◌∙◌, ◌≡◌}
use Rattle.drain.proofs.recently_seen.RecentlySeen.new.Goals as goal

-- entry 0 has an object of entry 1, and each other entry one of entry 0
nowhere : (o : ℕ) → slice_index (slice_set (replicate 4096 0) 0 1) (o % 4096) ≡ o → ⊥
nowhere o is = go (ℕ_discrete (o % 4096) 0)
  where
    go : Dec (o % 4096 ≡ 0) → ⊥
    go (yes first) =
        let one : 1 ≡ o = sym (ap (slice_index (slice_set (replicate 4096 0) 0 1)) first) ∙ is in
        omega (arith, first, one)
    go (no other) =
        let below : o % 4096 < 4096 = omega arith in
        let zero : slice_index (slice_set (replicate 4096 0) 0 1) (o % 4096) ≡ 0 =
        get_or-set_other (replicate 4096 0) 0 (o % 4096) 1 0 other
        ∙ get_or-replicate 4096 (o % 4096) 0 0 below in
        other (omega (arith, zero, is))

pub returns : goal.returns
returns c = record { none = nowhere }
