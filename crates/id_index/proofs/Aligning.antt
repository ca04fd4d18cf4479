-- Identifiers that agree in their lowest bits, by the bits above those.
use Rattle.id_index.proofs.Words.{IsFirstRepeat, List, None, Option, Some, ap, arith, div-add-mod', div-mul-add, eq-eqb}
use Rattle.id_index.proofs.Words.{eqb-false, eqb-true, ext_get_or, get_or, get_or-map, get_or_from_slice_get, length}
use Rattle.id_index.proofs.Words.{length-map}
use Rattle.id_index.proofs.Words.{mod-mul-add, ne_eqb, position, position-Some, slice_get, slice_get-get_or}
use Rattle.id_index.proofs.Words.{slice_get_within, sym, whole_id, whole_ids, ℕ, ◌%◌, ◌*◌, ◌+◌, ◌/◌, ◌<◌, ◌==◌, ◌^◌}
use Rattle.id_index.proofs.Words.{◌∙◌, ◌≡◌, ◌≢◌}
use Rattle.id_index.proofs.Bearers.{before_in, in_before, absent, position_is, position_none}

module _ (shift low : ℕ) (fits : low < 2 ^ shift) where
  -- the identifier of object k
  whole_at : (highs : List ℕ) (k : ℕ) → k < length highs
      → get_or (whole_ids shift low highs) k 0 ≡ whole_id shift low (get_or highs k 0)
  whole_at highs k h = get_or-map (whole_id shift low) highs k 0 0 h

  count : (highs : List ℕ) → length (whole_ids shift low highs) ≡ length highs
  count highs = length-map highs (whole_id shift low)

  low_of : (high : ℕ) → whole_id shift low high % 2 ^ shift ≡ low
  low_of high = mod-mul-add high (2 ^ shift) low fits

  pub high_of : (high : ℕ) → whole_id shift low high / 2 ^ shift ≡ high
  high_of high = div-mul-add high (2 ^ shift) low fits

  pub whole_again : (id : ℕ) → id % 2 ^ shift ≡ low → whole_id shift low (id / 2 ^ shift) ≡ id
  whole_again id same =
      ap (λ (r : ℕ). id / 2 ^ shift * 2 ^ shift + r) (sym same) ∙ div-add-mod' id (2 ^ shift)

  -- no identifier has other lowest bits
  pub other_bits : (highs : List ℕ) (id : ℕ) → id % 2 ^ shift ≢ low
      → None ≡ position (λ x. x == id) (whole_ids shift low highs)
  other_bits highs id differs =
      position_none (λ x. x == id) (whole_ids shift low highs) (λ k h.
      ne_eqb (get_or (whole_ids shift low highs) k 0) id (λ e.
      differs (ap (λ (x : ℕ). x % 2 ^ shift) (sym e ∙ whole_at highs k (omega (arith, h, count highs)))
      ∙ low_of (get_or highs k 0))))

  pub found : (highs : List ℕ) (id : ℕ) (result : Option ℕ) → id % 2 ^ shift ≡ low
      → result ≡ position (λ x. x == id / 2 ^ shift) highs
      → result ≡ position (λ x. x == id) (whole_ids shift low highs)
  found highs id None same e =
      position_none (λ x. x == id) (whole_ids shift low highs) (λ k h.
      ne_eqb (get_or (whole_ids shift low highs) k 0) id (λ is.
      absent highs (id / 2 ^ shift) k e (omega (arith, h, count highs))
      (sym (high_of (get_or highs k 0)) ∙ ap (λ (x : ℕ). x / 2 ^ shift)
      (sym (whole_at highs k (omega (arith, h, count highs))) ∙ is))))
  found highs id (Some n) same e =
      let it = position-Some (λ x. x == id / 2 ^ shift) highs n 0 (sym e) in
      position_is (λ x. x == id) (whole_ids shift low highs) n (omega (arith, it.0, count highs))
      (λ k h. ne_eqb (get_or (whole_ids shift low highs) k 0) id (λ is.
      eqb-false (get_or highs k 0) (id / 2 ^ shift) (it.2 k h)
      (sym (high_of (get_or highs k 0)) ∙ ap (λ (x : ℕ). x / 2 ^ shift)
      (sym (whole_at highs k (omega (arith, it.0, h))) ∙ is))))
      (eq-eqb (get_or (whole_ids shift low highs) n 0) id
      (whole_at highs n it.0 ∙ ap (whole_id shift low) (eqb-true (get_or highs n 0) (id / 2 ^ shift) it.1)
      ∙ whole_again id same))

  -- the object of an identifier is that of the bits above the lowest ones
  high_at : (highs : List ℕ) (k id : ℕ) → slice_get (whole_ids shift low highs) k ≡ Some id
      → (slice_get highs k ≡ Some (id / 2 ^ shift)) × (whole_id shift low (id / 2 ^ shift) ≡ id)
  high_at highs k id e =
      let within : k < length highs = omega (arith, slice_get_within (whole_ids shift low highs) k id e, count highs) in
      let is : whole_id shift low (get_or highs k 0) ≡ id =
      sym (whole_at highs k within) ∙ get_or_from_slice_get (whole_ids shift low highs) k id 0 e in
      let high : get_or highs k 0 ≡ id / 2 ^ shift =
      sym (high_of (get_or highs k 0)) ∙ ap (λ (x : ℕ). x / 2 ^ shift) is in
      (slice_get-get_or highs k 0 within ∙ ap Some high, ap (whole_id shift low) (sym high) ∙ is)

  pub repeats : (highs : List ℕ) (number : ℕ) → IsFirstRepeat highs number
      → IsFirstRepeat (whole_ids shift low highs) number
  repeats highs number it = record {
    first = λ k id below e has.
        let mine = high_at highs k id e in
        let (j, less, e_j) = before_in (whole_ids shift low highs) k id has in
        it.first k (id / 2 ^ shift) below mine.0
        (in_before highs k (id / 2 ^ shift) j less (high_at highs j id e_j).0);
    repeated = λ id e.
        let mine = high_at highs number id e in
        let (j, less, e_j) = before_in highs number (id / 2 ^ shift) (it.repeated (id / 2 ^ shift) mine.0) in
        let within : j < length highs = slice_get_within highs j (id / 2 ^ shift) e_j in
        let is : get_or (whole_ids shift low highs) j 0 ≡ id =
        whole_at highs j within
        ∙ ap (whole_id shift low) (get_or_from_slice_get highs j (id / 2 ^ shift) 0 e_j) ∙ mine.1 in
        in_before (whole_ids shift low highs) number id j less
        (slice_get-get_or (whole_ids shift low highs) j 0 (omega (arith, within, count highs)) ∙ ap Some is);
  }

-- without lowest bits, the bits above those are the identifiers
pub whole_same : (ids : List ℕ) → whole_ids 0 0 ids ≡ ids
whole_same ids =
    ext_get_or 0 (whole_ids 0 0 ids) ids (length-map ids (whole_id 0 0))
    (λ k h. get_or-map (whole_id 0 0) ids k 0 0 (omega (arith, h, length-map ids (whole_id 0 0)))
    ∙ omega arith)
