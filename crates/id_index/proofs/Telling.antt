-- What pruned extents say of the objects.
use Rattle.id_index.proofs.Words.{All-from_get_or, All-permutation, AreBuilt, AreComplete, AreFewBuilt}
use Rattle.id_index.proofs.Words.{ArePrunedBefore, AreSorted, AreSound, Contains-get_or, Contains-permutation}
use Rattle.id_index.proofs.Words.{IsFirstRepeat, IsLeastRepeat, IsPermutation, IsPermutation-sym, IsSorted, List}
use Rattle.id_index.proofs.Words.{Option, Extent, Tell, ap, arith, end_of, ids_built, ids_of_extents, length}
use Rattle.id_index.proofs.Words.{length-take-le}
use Rattle.id_index.proofs.Words.{length_permutation, no_extent, extent_cmp, extent_in, subst, sym, take, with_last, ℕ}
use Rattle.id_index.proofs.Words.{◌<◌, ◌^◌}
use Rattle.id_index.proofs.Words.{◌≡◌}
use Rattle.id_index.proofs.Apart.{apart_in_turn, apart_moved}
use Rattle.id_index.proofs.Bearers.{stands}
use Rattle.id_index.proofs.Built.{all_built, ids_count}
use Rattle.id_index.proofs.Numbering.{given_back}
use Rattle.id_index.proofs.Repeating.{first_repeat}

-- ---- extents in another order

module _ (extents ordered : List Extent) (ids : List ℕ) (same : IsPermutation extents ordered) where
  pub still_sound : AreSound extents ids → AreSound ordered ids
  still_sound sound x id has bearer =
      sound x id (Contains-permutation ordered extents x (IsPermutation-sym extents ordered same) has) bearer

  pub still_complete : AreComplete extents ids → AreComplete ordered ids
  still_complete complete id n e =
      let (x, has, bearer, number) = complete id n e in
      (x, Contains-permutation extents ordered x same has, bearer, number)

  pub ordered_extents : AreBuilt extents ids → length ids < 2 ^ 32 → IsSorted extent_cmp ordered → AreSorted ordered
  ordered_extents it few up = record {
    sorted = up;
    apart = apart_moved extents ordered same (apart_in_turn extents it.turn);
    few = λ k h. All-permutation (λ (l : Extent). end_of l < 2 ^ 32) extents ordered same
        (All-from_get_or (λ (l : Extent). end_of l < 2 ^ 32) extents no_extent
        (λ i less. omega (arith, few, it.before i less))) k no_extent h;
  }

-- ---- the extents that are kept

module _ (extents now : List Extent) (kept : ℕ) (ids : List ℕ) (it : ArePrunedBefore extents now (length extents) kept)
    (sound : AreSound extents ids) (complete : AreComplete extents ids) where
  tell : Tell (take kept now) ids
  tell = record {
    sound = λ k id h has.
        let (i, less, same) = it.pruned.from k h in
        rw (← same) (sound (extent_in extents i) id (Contains-get_or extents i no_extent less) (rw same has));
    earliest = λ id n e.
        let (extent, has, bearer, number) = complete id n e in
        let (i, less, same) = stands extents extent has in
        let (k, h, bears, low) = it.pruned.covered i id less (rw same bearer) in
        (k, h, bears, omega (arith, rw same at low, number));
  }

  told : (count : ℕ) → length ids ≡ count → ids ≡ ids_of_extents now count
  told count len =
      given_back now ids count (still_sound extents now ids it.same sound)
      (still_complete extents now ids it.same complete)
      len

-- ---- from the builder's extents to ascending ones

module _ (extents : List Extent) (last : Option Extent) (count : ℕ) (all ordered : List Extent)
    (it : AreFewBuilt extents last (ids_built extents last count) count) (closed : all ≡ with_last extents last)
    (same : IsPermutation all ordered) (up : IsSorted extent_cmp ordered) where
  abbrev ids : List ℕ
  ids = ids_built extents last count

  len : length ids ≡ count
  len = ids_count extents last count

  built : AreBuilt all ids
  built = subst (λ (ls : List Extent). AreBuilt ls ids) (sym closed) (all_built extents last ids it.built)

  pub sorted_extents : AreSorted ordered
  sorted_extents = ordered_extents all ordered ids same built (omega (arith, it.few, len)) up

  sound : AreSound ordered ids
  sound = still_sound all ordered ids same built.sound

  complete : AreComplete ordered ids
  complete = still_complete all ordered ids same built.complete

  -- what an index of these extents has
  module _ (now : List Extent) (kept : ℕ) (pruned : ArePrunedBefore ordered now (length ordered) kept) where
    pub same_ids : ids ≡ ids_of_extents now count
    same_ids = told ordered now kept ids pruned sound complete count len

    pub kept_few : length (take kept now) < 2 ^ 32
    kept_few = omega (
      arith,
      length-take-le kept now (omega (arith, pruned.order, pruned.long)),
      pruned.order,
      length_permutation all ordered same,
      ap (λ (ls : List Extent). length ls) closed,
      it.fewer,
      it.few,
    )

    pub kept_tell : Tell (take kept now) (ids_of_extents now count)
    kept_tell =
        subst (λ (xs : List ℕ). Tell (take kept now) xs) same_ids (tell ordered now kept ids pruned sound complete)

    pub first_repeated : (repeat : ℕ) → IsLeastRepeat ordered (length ordered) count repeat
        → IsFirstRepeat (ids_of_extents now count) repeat
    first_repeated repeat least =
        subst (λ (xs : List ℕ). IsFirstRepeat xs repeat) same_ids
        (first_repeat ordered ids count repeat sorted_extents sound complete len least)
