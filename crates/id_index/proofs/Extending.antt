-- One more object, at a granule above all others of the last extent, or in an extent of its own.
use Rattle.id_index.proofs.Words.{AreComplete, AreSound, Contains-append_left, Contains-push, Contains-push_cases}
use Rattle.id_index.proofs.Words.{HasBearer, List, Extent, Some, [], ap, arith, bit_at, bit_at-zero, bit_or, cases_eq}
use Rattle.id_index.proofs.Words.{common_steps, count_ones, gets, inl, inr, length, length-append, mod_below, number_in}
use Rattle.id_index.proofs.Words.{extent_of, slice_get, subst, sym, ℕ, ◌%◌, ◌*◌, ◌++◌, ◌+◌, ◌/◌, ◌<◌, ◌^◌, ◌∙◌, ◌∷◌}
use Rattle.id_index.proofs.Words.{◌≡◌}
use Rattle.id_index.proofs.Words.{◌≢◌, ◌⊎◌}
use Rattle.id_index.proofs.Ones.{rank_at_set, rank_below_set, set_before, set_elsewhere, set_here}

-- ---- a list with one more element

pub push_length : {X : Type 0} (xs : List X) (x : X) → length (xs ++ x ∷ []) ≡ length xs + 1
push_length xs x = length-append xs (x ∷ [])

get_kept : (xs : List ℕ) (x k y : ℕ) → slice_get xs k ≡ Some y → slice_get (xs ++ x ∷ []) k ≡ Some y
get_kept xs x k y e = grind (arith, common_steps, gets)

get_last : (xs : List ℕ) (x : ℕ) → slice_get (xs ++ x ∷ []) (length xs) ≡ Some x
get_last xs x = grind (arith, common_steps, gets)

get_either : (xs : List ℕ) (x k y : ℕ) → slice_get (xs ++ x ∷ []) k ≡ Some y
    → (slice_get xs k ≡ Some y) ⊎ ((k ≡ length xs) × (y ≡ x))
get_either xs x k y e =
    elim (cases_eq k (length xs)) [
      | inl last ↦ inr (last, grind (arith, common_steps, gets))
      | inr other ↦ inl (grind (arith, common_steps, gets))
    ]

-- ---- an extent without objects

nothing_in : (page first id : ℕ) → HasBearer (extent_of page first 0) id → ⊥
nothing_in page first id has = omega (arith, has.set, bit_at-zero (id % 64))

pub empty_sound : (extents : List Extent) (ids : List ℕ) (page first : ℕ) → AreSound extents ids
    → AreSound (extents ++ (extent_of page first 0) ∷ []) ids
empty_sound extents ids page first sound extent id has bearer =
    elim (Contains-push_cases extents (extent_of page first 0) extent has) [
      | inl before ↦ sound extent id before bearer
      | inr same ↦ absurd (nothing_in page first id
          (subst (λ (l : Extent). HasBearer l id) (sym same) bearer))
    ]

pub empty_complete : (extents : List Extent) (ids : List ℕ) (page first : ℕ) → AreComplete extents ids
    → AreComplete (extents ++ (extent_of page first 0) ∷ []) ids
empty_complete extents ids page first complete id n e =
    let (extent, has, bearer, number) = complete id n e in
    (extent, Contains-append_left extents ((extent_of page first 0) ∷ []) extent has, bearer, number)

-- ---- a granule above all others

module _ (extents : List Extent) (ids : List ℕ) (page first word id : ℕ) (at : page ≡ id / 64)
    (above : word < 2 ^ (id % 64)) (end : first + count_ones word ≡ length ids) where
  abbrev old : Extent
  old = extent_of page first word

  abbrev new : Extent
  new = extent_of page first (bit_or word (1 * 2 ^ (id % 64) % 2 ^ 64))

  inside : id % 64 < 64
  inside = mod_below id 64 (omega arith)

  number_there : number_in new (id % 64) ≡ length ids
  number_there = omega (arith, end, rank_at_set word (id % 64) inside above)

  -- granules below the new one are as before
  as_before : (granule : ℕ) → granule < id % 64
      → (bit_at new.granules granule ≡ bit_at word granule) × (number_in new granule ≡ number_in old granule)
  as_before granule less = (
    set_elsewhere word (id % 64) inside above granule (λ e. omega (arith, e, less)),
    ap (λ (r : ℕ). first + r) (rank_below_set word (id % 64) inside above granule (omega (arith, less))),
  )

  -- what the longer extent had before
  had : (other : ℕ) → other % 64 ≢ id % 64 → HasBearer new other
      → HasBearer old other × (number_in new (other % 64) ≡ number_in old (other % 64))
  had other differs has =
      let set : bit_at word (other % 64) ≡ 1 =
      sym (set_elsewhere word (id % 64) inside above (other % 64) differs) ∙ has.set in
      let it = as_before (other % 64) (set_before word (id % 64) inside above (other % 64) set) in
      (record { page = has.page; set = set }, it.1)

  has_still : (other : ℕ) → HasBearer old other
      → HasBearer new other × (number_in new (other % 64) ≡ number_in old (other % 64))
  has_still other has =
      let it = as_before (other % 64) (set_before word (id % 64) inside above (other % 64) has.set) in
      (record { page = has.page; set = it.0 ∙ has.set }, it.1)

  told : AreSound (extents ++ old ∷ []) ids → (other : ℕ) → HasBearer new other
      → slice_get (ids ++ id ∷ []) (number_in new (other % 64)) ≡ Some other
  told sound other has =
      elim (cases_eq (other % 64) (id % 64)) [
        | inl same ↦
            let one : other ≡ id = omega (arith, same, has.page, at) in
            rw (one, number_there) (get_last ids id)
        | inr differs ↦
            let before = had other differs has in
            rw before.1 (get_kept ids id (number_in old (other % 64)) other
            (sound old other (Contains-push extents old) before.0))
      ]

  pub extend_sound : AreSound (extents ++ old ∷ []) ids → AreSound (extents ++ new ∷ []) (ids ++ id ∷ [])
  extend_sound sound extent other has bearer =
      elim (Contains-push_cases extents new extent has) [
        | inl before ↦ get_kept ids id (number_in extent (other % 64)) other
            (sound extent other (Contains-append_left extents (old ∷ []) extent before) bearer)
        | inr same ↦ rw (← same) (told sound other (rw same bearer))
      ]

  pub extend_complete : AreComplete (extents ++ old ∷ []) ids → AreComplete (extents ++ new ∷ []) (ids ++ id ∷ [])
  extend_complete complete other n e =
      elim (get_either ids id n other e) [
        | inl before ↦
            let (extent, has, bearer, number) = complete other n before in
            elim (Contains-push_cases extents old extent has) [
              | inl there ↦ (extent, Contains-append_left extents (new ∷ []) extent there, bearer, number)
              | inr same ↦
                  let still = has_still other (rw same bearer) in (
                    new,
                    Contains-push extents new,
                    still.0,
                    still.1 ∙ ap (λ (l : Extent). number_in l (other % 64)) same ∙ number,
                  )
            ]
        | inr last ↦ (
          new,
          Contains-push extents new,
          record { page = rw last.1 at; set = rw last.1 (set_here word (id % 64) inside above) },
          rw last.1 (number_there ∙ sym last.0),
        )
      ]
