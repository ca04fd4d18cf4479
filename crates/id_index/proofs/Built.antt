-- Extents while they are built.
use Rattle.id_index.proofs.Words.{AreBuilt, AreBuiltUpTo, AreFewBuilt, AreInTurn, AreOpen, List, None, Option, Extent}
use Rattle.id_index.proofs.Words.{Some, [], ap, append-nil, arith, bit_or, cases_eq, end_of, get_or-append}
use Rattle.id_index.proofs.Words.{get_or-append_seam, id_of_number, ids_built, inl, inr, length, length-append}
use Rattle.id_index.proofs.Words.{length-map-range_with_len, mod_below, no_extent, one_shl, option_to_list, or_zero_l}
use Rattle.id_index.proofs.Words.{pow_pos, refl, extent_in, extent_of, slice_get_within, subst, sym, with_last, ℕ, ◌%◌}
use Rattle.id_index.proofs.Words.{◌*◌}
use Rattle.id_index.proofs.Words.{◌++◌, ◌+◌, ◌/◌, ◌<◌, ◌^◌, ◌∙◌, ◌∷◌, ◌≡◌, ◌≤◌}
use Rattle.id_index.proofs.Extending.{empty_complete, empty_sound, extend_complete, extend_sound, push_length}
use Rattle.id_index.proofs.Numbering.{given_back}
use Rattle.id_index.proofs.Ones.{ones_of_bit, ones_set}

-- ---- one more extent

pub in_push : (extents : List Extent) (extent : Extent) (k : ℕ) → k < length extents
    → extent_in (extents ++ extent ∷ []) k ≡ extent_in extents k
in_push extents extent k h = get_or-append extents (extent ∷ []) no_extent k h

pub at_push : (extents : List Extent) (extent : Extent) (k : ℕ) → k ≡ length extents
    → extent_in (extents ++ extent ∷ []) k ≡ extent
at_push extents extent k e = ap (λ (m : ℕ). extent_in (extents ++ extent ∷ []) m) e
    ∙ get_or-append_seam extents extent [] no_extent

more_in_turn : (extents : List Extent) (extent : Extent) → AreInTurn extents
    → ((i : ℕ) → i < length extents → end_of (extent_in extents i) ≤ extent.first) → AreInTurn (extents ++ extent ∷ [])
more_in_turn extents extent turn before i j less within =
    elim (cases_eq j (length extents)) [
      | inl last ↦
          let below : i < length extents = omega (arith, less, last) in
          rw (in_push extents extent i below, at_push extents extent j last) (before i below)
      | inr other ↦
          let below : j < length extents = omega (arith, within, push_length extents extent, other) in
          rw (in_push extents extent i (omega (arith, less, below)), in_push extents extent j below)
          (turn i j less below)
    ]

more_before : (extents : List Extent) (extent : Extent) (count : ℕ)
    → ((i : ℕ) → i < length extents → end_of (extent_in extents i) ≤ extent.first) → end_of extent ≡ count
    → (i : ℕ) → i < length (extents ++ extent ∷ []) → end_of (extent_in (extents ++ extent ∷ []) i) ≤ count
more_before extents extent count before end i within =
    elim (cases_eq i (length extents)) [
      | inl last ↦ rw (at_push extents extent i last) (omega (arith, end))
      | inr other ↦
          let below : i < length extents = omega (arith, within, push_length extents extent, other) in
          rw (in_push extents extent i below) (omega (arith, end, before i below))
    ]

-- ---- the last extent

-- appending the last extent to the others keeps them built
closed : (extents : List Extent) (last : Extent) (ids : List ℕ) → AreOpen extents last ids
    → AreBuilt (extents ++ last ∷ []) ids
closed extents last ids it = record {
  sound = it.sound;
  complete = it.complete;
  turn = more_in_turn extents last it.turn it.before;
  before = more_before extents last (length ids) it.before it.end;
}

pub all_built : (extents : List Extent) (last : Option Extent) (ids : List ℕ) → AreBuiltUpTo extents last ids
    → AreBuilt (with_last extents last) ids
all_built extents None ids it = subst (λ (ls : List Extent). AreBuilt ls ids) (sym (append-nil extents)) it
all_built extents (Some last) ids it = closed extents last ids it

pub gives : (extents : List Extent) (last : Option Extent) (ids : List ℕ) (count : ℕ) → AreBuiltUpTo extents last ids
    → length ids ≡ count → ids ≡ ids_built extents last count
gives extents last ids count it len =
    let all : AreBuilt (with_last extents last) ids = all_built extents last ids it in
    given_back (with_last extents last) ids count all.sound all.complete len

pub ids_count : (extents : List Extent) (last : Option Extent) (count : ℕ)
    → length (ids_built extents last count) ≡ count
ids_count extents last count = length-map-range_with_len (id_of_number (with_last extents last)) 0 count

-- a new last extent in place of the old one adds at most one extent
as_many : (extents : List Extent) (last : Option Extent) (extent : Extent) (count : ℕ)
    → length (with_last extents last) ≤ count
    → length (extents ++ extent ∷ []) ≤ count + 1
as_many extents last extent count few =
    omega (arith, few, push_length extents extent, length-append extents (option_to_list last))

-- ---- one more object

-- a last extent without objects
emptied : (extents : List Extent) (ids : List ℕ) (page : ℕ) → AreBuilt extents ids
    → AreOpen extents (extent_of page (length ids) 0) ids
emptied extents ids page it = record {
  sound = empty_sound extents ids page (length ids) it.sound;
  complete = empty_complete extents ids page (length ids) it.complete;
  turn = it.turn;
  before = it.before;
  end = omega (arith, ones_of_bit 0 (omega arith));
}

-- an object that joins the last extent, at a granule above its other granules
placed : (extents : List Extent) (ids : List ℕ) (page first word id : ℕ)
    → AreOpen extents (extent_of page first word) ids
    → page ≡ id / 64 → word < 2 ^ (id % 64)
    → AreOpen extents (extent_of page first (bit_or word (1 * 2 ^ (id % 64) % 2 ^ 64))) (ids ++ id ∷ [])
placed extents ids page first word id it at above = record {
  sound = extend_sound extents ids page first word id at above it.end it.sound;
  complete = extend_complete extents ids page first word id at above it.end it.complete;
  turn = it.turn;
  before = it.before;
  end = omega (
    arith,
    it.end,
    push_length ids id,
    ones_set word (id % 64) (mod_below id 64 (omega arith)) above,
  );
}

-- an object with an extent of its own
begun : (extents : List Extent) (ids : List ℕ) (count id : ℕ) → AreBuilt extents ids → count ≡ length ids
    → AreOpen extents (extent_of (id / 64) count (1 * 2 ^ (id % 64) % 2 ^ 64)) (ids ++ id ∷ [])
begun extents ids count id it len =
    let bit : ℕ = 1 * 2 ^ (id % 64) % 2 ^ 64 in
    subst (λ (n : ℕ). AreOpen extents (extent_of (id / 64) n bit) (ids ++ id ∷ [])) (sym len)
    (subst (λ (w : ℕ). AreOpen extents (extent_of (id / 64) (length ids) w) (ids ++ id ∷ [])) (or_zero_l bit)
    (placed extents ids (id / 64) (length ids) 0 id (emptied extents ids (id / 64) it) refl (pow_pos (id % 64))))

-- what a builder has after that
module _ (extents : List Extent) (last : Option Extent) (count : ℕ)
    (it : AreFewBuilt extents last (ids_built extents last count) count) where
  abbrev ids : List ℕ
  ids = ids_built extents last count

  len : length ids ≡ count
  len = ids_count extents last count

  pub may_add : (old : List ℕ) → ids ≡ old → length old + 1 < 2 ^ 32 → count + 1 < 2 ^ 32
  may_add old same h = omega (arith, h, len, ap (λ (xs : List ℕ). length xs) same)

  module _ (id : ℕ) (few : count + 1 < 2 ^ 32) where
    abbrev AreAdded : List Extent → Extent → Type 0
    AreAdded more new = AreFewBuilt more (Some new) (ids_built more (Some new) (count + 1)) (count + 1)
        × (ids_built more (Some new) (count + 1) ≡ ids ++ id ∷ [])

    added : (more : List Extent) (new : Extent) → AreOpen more new (ids ++ id ∷ [])
        → length (more ++ new ∷ []) ≤ count + 1
        → AreAdded more new
    added more new made fewer =
        let same : ids ++ id ∷ [] ≡ ids_built more (Some new) (count + 1) =
        gives more (Some new) (ids ++ id ∷ []) (count + 1) made (omega (arith, len, push_length ids id)) in (
          record { built = subst (λ (xs : List ℕ). AreOpen more new xs) same made; fewer = fewer; few = few },
          sym same,
        )

    -- the object joins the last extent
    pub joins : (extent : Extent) → last ≡ Some extent → extent.page ≡ id / 64
        → extent.granules < 1 * 2 ^ (id % 64) % 2 ^ 64
        → AreAdded extents (extent_of extent.page extent.first (bit_or extent.granules (1 * 2 ^ (id % 64) % 2 ^ 64)))
    joins extent is page above =
        let new : Extent = extent_of extent.page extent.first (bit_or extent.granules (1 * 2 ^ (id % 64) % 2 ^ 64)) in
        added extents new (placed extents ids extent.page extent.first extent.granules id
        (subst (λ (l : Option Extent). AreBuiltUpTo extents l ids) is it.built) page
        (omega (arith, above, one_shl (id % 64) 64 (mod_below id 64 (omega arith)))))
        (as_many extents last new count it.fewer)

    -- the object begins an extent
    pub begins : (more : List Extent) → more ≡ with_last extents last
        → AreAdded more (extent_of (id / 64) count (1 * 2 ^ (id % 64) % 2 ^ 64))
    begins more closed =
        let new : Extent = extent_of (id / 64) count (1 * 2 ^ (id % 64) % 2 ^ 64) in
        added more new (begun more ids count id
        (subst (λ (ls : List Extent). AreBuilt ls ids) (sym closed) (all_built extents last ids it.built)) (sym len))
        (omega (arith, it.fewer, push_length more new, ap (λ (ls : List Extent). length ls) closed))

pub nothing : AreBuilt [] []
nothing = record {
  sound = λ extent id has. absurd (omega (arith, has.1));
  complete = λ id n e. absurd (omega (arith, slice_get_within [] n id e));
  turn = λ i j less within. absurd (omega (arith, within));
  before = λ i within. absurd (omega (arith, within));
}
