-- The identifiers that can be read from extents.
use Rattle.id_index.proofs.Words.{AreComplete, AreSound, Bool, Contains-get_or, HasBearer, List, Extent, Some, ap}
use Rattle.id_index.proofs.Words.{arith}
use Rattle.id_index.proofs.Words.{bit_at, div-mul-add, fails_before_first, false, fill_by_all, find, find_at, get_or}
use Rattle.id_index.proofs.Words.{get_or-range_with_len, get_or_from_slice_get, id_in, id_of_number, ids_of_extents}
use Rattle.id_index.proofs.Words.{length, length-range_with_len, lt-ltb, lt_of_not-le, ltb-true, mod-mul-add, mod_below}
use Rattle.id_index.proofs.Words.{nat_lt, nat_tests, no_extent, number_in, option_map_or, passes_at_first, granule_of}
use Rattle.id_index.proofs.Words.{position_or_len, range_with_len, slice_get, slice_get-get_or, stands_at, subst, sym}
use Rattle.id_index.proofs.Words.{true, ℕ, ◌%◌, ◌/◌, ◌<◌, ◌∙◌, ◌≡◌}

passes_both : (extent : Extent) (n p : ℕ) → bit_at extent.granules p ≡ 1 → number_in extent p ≡ n
    → stands_at extent n p ≡ true
passes_both extent n p set number = grind (arith, nat_tests)

both_pass : (extent : Extent) (n p : ℕ) → stands_at extent n p ≡ true
    → (bit_at extent.granules p ≡ 1) × (number_in extent p ≡ n)
both_pass extent n p h = grind (arith, nat_tests)

range_at : (p : ℕ) → p < 64 → get_or (range_with_len 0 64) p 0 ≡ p
range_at p h = omega (arith, get_or-range_with_len 0 64 p 0 h)

-- an extent with the number has a granule for it
granule_below : (extent : Extent) (n p : ℕ) → p < 64 → bit_at extent.granules p ≡ 1 → number_in extent p ≡ n
    → granule_of extent n < 64
granule_below extent n p h set number =
    lt_of_not-le {n = 64} {m = granule_of extent n} (λ le.
    let fails : stands_at extent n (get_or (range_with_len 0 64) p 0) ≡ false =
    fails_before_first (stands_at extent n) (range_with_len 0 64) p 0 (omega (arith, le, h)) in
    let here : stands_at extent n p ≡ false =
    subst (λ (q : ℕ). stands_at extent n q ≡ false) (range_at p h) fails in
    let passes : stands_at extent n p ≡ true = passes_both extent n p set number in
    absurd (cc))

granule_true : (extent : Extent) (n : ℕ) → granule_of extent n < 64
    → (bit_at extent.granules (granule_of extent n) ≡ 1) × (number_in extent (granule_of extent n) ≡ n)
granule_true extent n h =
    let inside : granule_of extent n < length (range_with_len 0 64) =
    omega (arith, h, length-range_with_len 0 64) in
    both_pass extent n (granule_of extent n)
    (subst (λ (q : ℕ). stands_at extent n q ≡ true) (range_at (granule_of extent n) h)
    (passes_at_first (stands_at extent n) (range_with_len 0 64) 0 inside))

number_id : (extents : List Extent) (ids : List ℕ) (n : ℕ) → AreSound extents ids → AreComplete extents ids
    → n < length ids → get_or ids n 0 ≡ id_of_number extents n
number_id extents ids n sound complete h =
    let test : Extent → Bool = λ (extent : Extent). nat_lt (granule_of extent n) 64 in
    let at : ℕ = position_or_len test extents in
    let it = complete (get_or ids n 0) n (slice_get-get_or ids n 0 h) in
    let extent : Extent = it.0 in
    let passes : test extent ≡ true = lt-ltb (granule_of extent n) 64
    (granule_below extent n (get_or ids n 0 % 64) (mod_below (get_or ids n 0) 64 (omega arith)) it.2.set it.3) in
    let inside : at < length extents =
    lt_of_not-le {n = length extents} {m = at}
    (λ le. let fails : test (get_or extents it.1.0 extent) ≡ false = fails_before_first test extents it.1.0 extent
    (omega (arith, le, it.1.1)) in
    let same : test (get_or extents it.1.0 extent) ≡ test extent = ap test it.1.2 in absurd (cc)) in
    let found : Extent = get_or extents at no_extent in
    let granule : ℕ = granule_of found n in
    let below : granule < 64 = ltb-true granule 64 (passes_at_first test extents no_extent inside) in
    let here = granule_true found n below in
    let id : ℕ = id_in n found in
    let page : found.page ≡ id / 64 = sym (div-mul-add found.page 64 granule below) in
    let rest : id % 64 ≡ granule = mod-mul-add found.page 64 granule below in
    let has : HasBearer found id = record { page = page; set = rw rest here.0 } in
    let number : number_in found (id % 64) ≡ n = rw rest here.1 in
    let told : slice_get ids n ≡ Some id =
    rw number at (sound found id (Contains-get_or extents at no_extent inside) has) in
    let read : find test extents ≡ Some found = find_at test extents ∙ slice_get-get_or extents at no_extent inside in
    get_or_from_slice_get ids n id 0 told ∙ sym (ap (λ o. option_map_or (id_in n) o 0) read)

pub given_back : (extents : List Extent) (ids : List ℕ) (count : ℕ) → AreSound extents ids → AreComplete extents ids
    → length ids ≡ count → ids ≡ ids_of_extents extents count
given_back extents ids count sound complete len =
    fill_by_all (id_of_number extents) ids count 0 len
    (λ k h. number_id extents ids k sound complete (omega (arith, h, len)))
