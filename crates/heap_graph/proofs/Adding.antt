-- What holds after an identifier was added, if adding succeeds and if there is room.
use Rattle.std.specs.Prelude.{Err, Ok, OnOk, Result, length, map, ℕ, ◌%◌, ◌++◌, ◌+◌, ◌^◌, ◌≡◌}
use Rattle.std.proofs.Common.{List, Some, [], ap, arith, length-append, slice_get, sym, take, ◌∙◌, ◌∷◌}
use Rattle.std.proofs.Math.Nat.{mod-one}
use Rattle.id_index.specs.Aligned.{AlignedIds}
use Rattle.heap_graph.proofs.EntryLaws.{map_one, take_one}

pub on_ok : {X E : Type 0} {P Q : Type 0} (r : Result X E) → (P → Q) → OnOk r P → OnOk r Q
on_ok (Ok x) f h = f h
on_ok (Err e) f h = tt

-- the builder has the keys of the first `count` things of each list that fits
pub record AreAdded {R X : Type 0} (Fits : R → Type 0) (things : R → List X) (key : X → ℕ) (ids : List ℕ)
    (count : ℕ) : Type 0 where
  pub count_is : length ids ≡ count
  pub each : (r : R) → Fits r → ids ≡ map key (take count (things r))

module _ {X : Type 0} (key : X → ℕ) {id : ℕ} {old new : List ℕ} (pushed : new ≡ old ++ id ∷ []) where
  -- one more key: that of the thing after those so far
  pub keys_more : (xs : List X) (i : ℕ) (x : X) → slice_get xs i ≡ Some x → id ≡ key x → old ≡ map key (take i xs)
      → new ≡ map key (take (i + 1) xs)
  keys_more xs i x here own before =
      pushed ∙ ap (λ (ids : List ℕ). ids ++ id ∷ []) before ∙ ap (λ (n : ℕ). map key (take i xs) ++ n ∷ []) own
      ∙ sym (map_one key (take i xs) x) ∙ ap (λ zs. map key zs) (sym (take_one xs i x here))

  -- and one more thing
  pub one_more_added : {R : Type 0} {Fits : R → Type 0} {things : R → List X} {count : ℕ}
      → AreAdded Fits things key old count
      → ((r : R) → Fits r → (x : X) × (slice_get (things r) count ≡ Some x) × (id ≡ key x))
      → AreAdded Fits things key new (count + 1)
  one_more_added {things = things} {count} added next = record {
    count_is = omega (arith, ap length pushed, length-append old (id ∷ []), added.count_is);
    each = λ r fits. let it = next r fits in keys_more (things r) count it.0 it.1 it.2 (added.each r fits);
  }

-- the builder takes any identifier
pub record TakesAll (builder : AlignedIds) : Type 0 where
  pub shift_is : builder.shift ≡ 0
  pub low_is : builder.low ≡ 0

pub takes : (builder : AlignedIds) (id : ℕ) → TakesAll builder → id % 2 ^ builder.shift ≡ builder.low
takes builder id all = ap (λ (s : ℕ). id % 2 ^ s) all.shift_is ∙ mod-one id ∙ sym all.low_is

pub still_takes : (old new : AlignedIds) → TakesAll old → new.shift ≡ old.shift → new.low ≡ old.low → TakesAll new
still_takes old new all shift low = record { shift_is = shift ∙ all.shift_is; low_is = low ∙ all.low_is }
