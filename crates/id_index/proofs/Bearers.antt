-- What the first extent with an identifier says of the objects' identifiers.
use Rattle.id_index.proofs.Words.{AreAscending, AreFewAPage, Bool, Contains, HasBearer, IfSome, IsBearerAt}
use Rattle.id_index.proofs.Words.{IsFirstBearer, IsFirstFrom, IsNumberAt, IsTrue, List, MatchOption, None, Option}
use Rattle.id_index.proofs.Words.{Extent}
use Rattle.id_index.proofs.Words.{Some, Tell, ap, arith, bit_at, common_steps, cond_above, cond_below, count_ones}
use Rattle.id_index.proofs.Words.{eq-eqb, eqb-false, eqb-true, fails_before_first, false, get_or, get_or_from_slice_get}
use Rattle.id_index.proofs.Words.{get_or_read, gets, inl, inr, length, length-take, lt-ltb, lt_of_not-le, ltb-true}
use Rattle.id_index.proofs.Words.{nat_lt, ne_eqb, no_extent, number_in, page_in, position, position-Some}
use Rattle.id_index.proofs.Words.{position_or_len}
use Rattle.id_index.proofs.Words.{position_or_len_is, rank, refl, extent_in, slice_get, slice_get-get_or}
use Rattle.id_index.proofs.Words.{slice_get_within}
use Rattle.id_index.proofs.Words.{subst, sym, take, true, ℕ, ◌%◌, ◌+◌, ◌-◌, ◌/◌, ◌<◌, ◌==◌, ◌↔◌, ◌∙◌, ◌≡◌, ◌≢◌, ◌≤◌}
use Rattle.id_index.proofs.Words.{◌⊎◌}
use Rattle.id_index.proofs.Ones.{rank_less_than_all}

-- the granule of an extent
pub stands : (extents : List Extent) (x : Extent) → Contains extents x → (k : ℕ) × (k < length extents)
    × (extent_in extents k ≡ x)
stands extents x h = (h.0, h.1, sym (get_or_read extents h.0 x h.1 (sym h.2) no_extent))

-- the first granule that passes a test
pub position_is : (p : ℕ → Bool) (xs : List ℕ) (i : ℕ) → i < length xs → ((k : ℕ) → k < i → p (get_or xs k 0) ≡ false)
    → p (get_or xs i 0) ≡ true → Some i ≡ position p xs
position_is p xs i below before here =
    let e : position_or_len p xs ≡ i = position_or_len_is p xs i 0 (omega arith) before (λ _. here) in
    subst (λ (n : ℕ). Some n ≡ position p xs) e
    (cond_below (position_or_len p xs) (length xs) (Some (position_or_len p xs)) None (omega (arith, e, below)))

pub position_none : (p : ℕ → Bool) (xs : List ℕ) → ((k : ℕ) → k < length xs → p (get_or xs k 0) ≡ false)
    → None ≡ position p xs
position_none p xs before =
    let e : position_or_len p xs ≡ length xs =
    position_or_len_is p xs (length xs) 0 (omega arith) before (λ h. absurd (omega (arith, h))) in
    cond_above (position_or_len p xs) (length xs) (Some (position_or_len p xs)) None None (omega (arith, e)) refl

-- no object before the number of the first extent has the identifier
others : (extents : List Extent) (ids : List ℕ) (id number at k : ℕ) → AreAscending extents
    → Tell extents ids → IsBearerAt extents id number at → k < number → slice_get ids k ≡ Some id → ⊥
others extents ids id number at k up tell it less e =
    let (j, below, has, low) = tell.earliest id k e in
    let mine : number ≡ (extent_in extents at).first + rank (extent_in extents at).granules (id % 64) = it.number_is in
    let not_before : ¬ (j < at) = λ (early : j < at). it.first j early has in
    let not_here : ¬ (j ≡ at) = λ (e : j ≡ at).
    let same : number_in (extent_in extents j) (id % 64) ≡ number_in (extent_in extents at) (id % 64) =
    ap (λ (m : ℕ). number_in (extent_in extents m) (id % 64)) e in
    omega (arith, same, mine, low, less) in
    let behind : at < j = omega (arith, not_before, not_here) in
    let there : page_in extents j ≡ id / 64 = has.page in
    let here : page_in extents at ≡ id / 64 = it.here.page in
    let end : (extent_in extents at).first + count_ones (extent_in extents at).granules ≤ (extent_in extents j).first =
    up.apart at j behind below (here ∙ sym there) in
    let inside : rank (extent_in extents at).granules (id % 64) < count_ones (extent_in extents at).granules =
    rank_less_than_all (extent_in extents at).granules (id % 64) it.here.set in
    omega (arith, end, inside, mine, low, less)

pub named : (extents : List Extent) (ids : List ℕ) (id : ℕ) (result : Option ℕ) → AreAscending extents
    → Tell extents ids → IsFirstBearer extents id result → result ≡ position (λ x. x == id) ids
named extents ids id None up tell free =
    position_none (λ x. x == id) ids (λ k h. ne_eqb (get_or ids k 0) id (λ e.
    let (j, below, has, low) = tell.earliest id k (slice_get-get_or ids k 0 h ∙ ap Some e) in free j below has))
named extents ids id (Some number) up tell (at, it) =
    let e : slice_get ids number ≡ Some id =
    subst (λ (n : ℕ). slice_get ids n ≡ Some id) (sym it.number_is) (tell.sound at id it.within it.here) in
    position_is (λ x. x == id) ids number (slice_get_within ids number id e)
    (λ k h. ne_eqb (get_or ids k 0) id
    (λ same. others extents ids id number at k up tell it h
    (slice_get-get_or ids k 0 (omega (arith, h, slice_get_within ids number id e)) ∙ ap Some same)))
    (eq-eqb (get_or ids number 0) id (get_or_from_slice_get ids number id 0 e))

-- if the first extent of a page has an identifier, no extent before it has
pub bearer_at : (extents : List Extent) (id at : ℕ) → at < length extents → page_in extents at ≡ id / 64
    → ((k : ℕ) → k < at → page_in extents k < id / 64) → (result : Option ℕ)
    → MatchOption result (bit_at (extent_in extents at).granules (id % 64) ≢ 1)
    (λ n. IsNumberAt (extent_in extents at) (id % 64) n)
    → IfSome result (λ n. IsBearerAt extents id n at)
bearer_at extents id at within page below None none = tt
bearer_at extents id at within page below (Some n) it = record {
  within = within;
  here = record { page = page; set = it.set };
  number_is = it.number_is;
  first = λ k less has. let other : page_in extents k < id / 64 = below k less in omega (arith, other, has.page);
}

-- if no extent before one of a greater page has the identifier, no extent has it
pub none_behind : (extents : List Extent) (id from at : ℕ) → AreAscending extents
    → IsFirstFrom extents (id / 64) from → from ≤ at → at < length extents
    → ((k : ℕ) → k < at → HasBearer (extent_in extents k) id → ⊥) → page_in extents at ≢ id / 64
    → (k : ℕ) → k < length extents → HasBearer (extent_in extents k) id → ⊥
none_behind extents id from at up first after within before other k below has =
    let page : page_in extents k ≡ id / 64 = has.page in
    let early : ¬ (k < at) = λ (less : k < at). before k less has in
    let low : id / 64 ≤ page_in extents at = first.above at after within in
    let rise : page_in extents at ≤ page_in extents k = up.rise at k (omega (arith, early)) below in
    other (omega (arith, page, low, rise))

-- no extent of the page is 64 or more extents after the first one
pub none_past : (extents : List Extent) (id from stop : ℕ) → AreAscending extents
    → AreFewAPage extents → IsFirstFrom extents (id / 64) from → (length extents ≤ stop) ⊎ (from + 64 ≤ stop)
    → ((k : ℕ) → k < stop → HasBearer (extent_in extents k) id → ⊥)
    → (k : ℕ) → k < length extents → HasBearer (extent_in extents k) id → ⊥
none_past extents id from stop up few first (inl whole) before k below has =
    before k (omega (arith, whole, below)) has
none_past extents id from stop up few first (inr many) before k below has =
    let early : ¬ (k < stop) = λ (less : k < stop). before k less has in
    let back : ℕ = k - 64 in
    let e : back + 64 ≡ k = omega (arith, early, many) in
    let page : page_in extents k ≡ id / 64 = has.page in
    let low : id / 64 ≤ page_in extents back =
    first.above back (omega (arith, early, many, e)) (omega (arith, below, e)) in
    let rise : page_in extents back ≤ page_in extents k = up.rise back k (omega (arith, e)) below in
    let same : page_in extents back ≡ page_in extents k = omega (arith, page, low, rise) in
    few back (omega (arith, e, below)) (same ∙ ap (λ (m : ℕ). page_in extents m) (sym e))

-- the number of an earlier object with an identifier
pub before_in : (ids : List ℕ) (number id : ℕ) → Contains (take number ids) id
    → (k : ℕ) × (k < number) × (slice_get ids k ≡ Some id)
before_in ids number id has =
    (has.0, omega (arith, has.1, length-take number ids), grind (arith, common_steps, gets, has.1, has.2))

pub in_before : (ids : List ℕ) (number id k : ℕ) → k < number → slice_get ids k ≡ Some id
    → Contains (take number ids) id
in_before ids number id k below e = (k, grind (arith, common_steps, gets), grind (arith, common_steps, gets))

-- an earlier object has the identifier exactly if the first object that has it is earlier
pub earlier : (ids : List ℕ) (id number first : ℕ) → Some first ≡ position (λ x. x == id) ids
    → IsTrue (nat_lt first number) ↔ Contains (take number ids) id
earlier ids id number first e =
    let it = position-Some (λ x. x == id) ids first 0 (sym e) in (
      (λ less. in_before ids number id first (ltb-true first number less)
          (slice_get-get_or ids first 0 it.0 ∙ ap Some (eqb-true (get_or ids first 0) id it.1))),
      (λ has. let (k, below, is) = before_in ids number id has in
          let late : ¬ (k < first) = λ (lt : k < first).
          eqb-false (get_or ids k 0) id (it.2 k lt) (get_or_from_slice_get ids k id 0 is) in
          lt-ltb first number (omega (arith, below, late))),
    )

-- no object has an identifier that has no position
pub absent : (ids : List ℕ) (id k : ℕ) → None ≡ position (λ x. x == id) ids → k < length ids → get_or ids k 0 ≡ id → ⊥
absent ids id k e within =
    let test : ℕ → Bool = λ x. x == id in
    let granule : ℕ = position_or_len test ids in
    let late : ¬ (granule + 1 ≤ length ids) = λ (le : granule + 1 ≤ length ids).
    let found : Some granule ≡ position test ids =
    cond_below granule (length ids) (Some granule) None (omega (arith, le)) in cc
    in
    eqb-false (get_or ids k 0) id (fails_before_first test ids k 0
    (omega (arith, within, lt_of_not-le {n = granule + 1} {m = length ids} late)))

pub nowhere : (ids : List ℕ) (id number : ℕ) → None ≡ position (λ x. x == id) ids → Contains (take number ids) id → ⊥
nowhere ids id number e has =
    let (k, below, is) = before_in ids number id has in
    absent ids id k e (slice_get_within ids k id is) (get_or_from_slice_get ids k id 0 is)

-- an identifier that has a position is in the list
pub bears : (ids : List ℕ) (id n : ℕ) → Some n ≡ position (λ x. x == id) ids → Contains ids id
bears ids id n e =
    let it = position-Some (λ x. x == id) ids n 0 (sym e) in
    let here : get_or ids n 0 ≡ id = eqb-true (get_or ids n 0) id it.1 in
    (n, it.0, get_or_from_slice_get ids n id id (slice_get-get_or ids n 0 it.0 ∙ ap Some here))
