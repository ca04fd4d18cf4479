-- The objects of one list, and then those of another.
use Rattle.id_index.proofs.Words.{AreBuilt, AreComplete, AreFewBuilt, AreInTurn, AreSound, Contains}
use Rattle.id_index.proofs.Words.{Contains-append_cases, Contains-append_left, Contains-append_right, Contains-get_or}
use Rattle.id_index.proofs.Words.{HasBearer, List, None, Option, Extent, Some, ap, append-nil, arith, cases_lt}
use Rattle.id_index.proofs.Words.{common_steps, end_of, get_or-append-add, get_or-map, get_or_append_left, gets}
use Rattle.id_index.proofs.Words.{ids_built, ids_of_extents, inl, inr, length, length-append, length-map, map}
use Rattle.id_index.proofs.Words.{no_extent}
use Rattle.id_index.proofs.Words.{number_in, raised_by, extent_in, slice_get, subst, sym, with_last, ℕ, ◌%◌, ◌++◌, ◌+◌}
use Rattle.id_index.proofs.Words.{◌-◌, ◌<◌, ◌^◌, ◌∙◌, ◌≡◌, ◌≤◌}
use Rattle.id_index.proofs.Built.{all_built, gives, ids_count}

-- ---- one list after another

get_first : (xs ys : List ℕ) (k x : ℕ) → slice_get xs k ≡ Some x → slice_get (xs ++ ys) k ≡ Some x
get_first xs ys k x e = grind (arith, common_steps, gets)

get_second : (xs ys : List ℕ) (k x : ℕ) → slice_get ys k ≡ Some x → slice_get (xs ++ ys) (length xs + k) ≡ Some x
get_second xs ys k x e = grind (arith, common_steps, gets)

-- an element of the first list
from_first : (xs ys : List ℕ) (k x : ℕ) → k < length xs → slice_get (xs ++ ys) k ≡ Some x → slice_get xs k ≡ Some x
from_first xs ys k x h e = grind (arith, common_steps, gets)

-- or of the second list
from_second : (xs ys : List ℕ) (k x : ℕ) → length xs ≤ k → slice_get (xs ++ ys) k ≡ Some x
    → slice_get ys (k - length xs) ≡ Some x
from_second xs ys k x h e = grind (arith, common_steps, gets)

-- ---- the extents of the second list, raised by the number of objects in the first

module _ (xs ys : List Extent) (ids more : List ℕ) where
  abbrev raised : Extent → Extent
  raised = raised_by (length ids)

  abbrev all : List Extent
  all = xs ++ map raised ys

  many : length all ≡ length xs + length ys
  many = omega (arith, length-append xs (map raised ys), length-map ys raised)

  in_first : (k : ℕ) → k < length xs → extent_in all k ≡ extent_in xs k
  in_first k h = get_or_append_left xs (map raised ys) no_extent k h

  in_second : (k : ℕ) → length xs ≤ k → k < length all → extent_in all k ≡ raised (extent_in ys (k - length xs))
  in_second k from h =
      let at : length xs + (k - length xs) ≡ k = omega (arith, from) in
      sym (ap (λ (n : ℕ). extent_in all n) at) ∙ get_or-append-add xs (map raised ys) (k - length xs) no_extent
      ∙ get_or-map raised ys (k - length xs) no_extent no_extent (omega (arith, from, h, many))

  -- a raised extent is one of the second list
  lowered : (extent : Extent) → Contains (map raised ys) extent → (own : Extent) × Contains ys own
      × (raised own ≡ extent)
  lowered extent has =
      let within : has.0 < length ys = omega (arith, has.1, length-map ys raised) in (
        extent_in ys has.0,
        Contains-get_or ys has.0 no_extent within,
        sym (get_or-map raised ys has.0 no_extent extent within) ∙ has.2,
      )

  lifted : (extent : Extent) → Contains ys extent → Contains (map raised ys) (raised extent)
  lifted extent has = (
    has.0,
    omega (arith, has.1, length-map ys raised),
    get_or-map raised ys has.0 extent (raised extent) has.1
        ∙ ap raised has.2,
  )

  sound : AreSound xs ids → AreSound ys more → AreSound all (ids ++ more)
  sound first second extent id has bearer =
      elim (Contains-append_cases xs (map raised ys) extent has) [
        | inl here ↦ get_first ids more (number_in extent (id % 64)) id (first extent id here bearer)
        | inr there ↦
            let (own, is, same) = lowered extent there in
            let mine : HasBearer (raised own) id = rw same bearer in
            let told = second own id is (record { page = mine.page; set = mine.set }) in
            let number : length ids + number_in own (id % 64) ≡ number_in extent (id % 64) =
            omega (arith, ap (λ (l : Extent). number_in l (id % 64)) same) in
            subst (λ (n : ℕ). slice_get (ids ++ more) n ≡ Some id) number
            (get_second ids more (number_in own (id % 64)) id told)
      ]

  complete : AreComplete xs ids → AreComplete ys more → AreComplete all (ids ++ more)
  complete first second id n e =
      elim (cases_lt n (length ids)) [
        | inl below ↦
            let (extent, has, bearer, number) = first id n (from_first ids more n id below e) in
            (extent, Contains-append_left xs (map raised ys) extent has, bearer, number)
        | inr from ↦
            let (extent, has, bearer, number) = second id (n - length ids) (from_second ids more n id from e) in (
              raised extent,
              Contains-append_right xs (map raised ys) (raised extent) (lifted extent has),
              record { page = bearer.page; set = bearer.set },
              omega (arith, number, from),
            )
      ]

  turn : AreBuilt xs ids → AreInTurn ys → AreInTurn all
  turn first second i j less within =
      elim (cases_lt j (length xs)) [
        | inl below ↦ rw (in_first i (omega (arith, less, below)), in_first j below) (first.turn i j less below)
        | inr from ↦ elim (cases_lt i (length xs)) [
          | inl below ↦ rw (in_first i below, in_second j from within) (omega (arith, first.before i below))
          | inr behind ↦ rw (in_second i behind (omega (arith, less, within)), in_second j from within) (omega (
            arith,
            second (i - length xs) (j - length xs) (omega (arith, less, behind)) (omega (arith, within, many, from)),
          ))
        ]
      ]

  before : AreBuilt xs ids → AreBuilt ys more → (i : ℕ) → i < length all
      → end_of (extent_in all i) ≤ length (ids ++ more)
  before first second i within =
      elim (cases_lt i (length xs)) [
        | inl below ↦ rw (in_first i below) (omega (arith, first.before i below, length-append ids more))
        | inr from ↦ rw (in_second i from within) (omega (
          arith,
          second.before (i - length xs) (omega (arith, within, many, from)),
          length-append ids more,
        ))
      ]

  pub joined : AreBuilt xs ids → AreBuilt ys more → AreBuilt all (ids ++ more)
  joined first second = record {
    sound = sound first.sound second.sound;
    complete = complete first.complete second.complete;
    turn = turn first second.turn;
    before = before first second;
  }

-- ---- what a builder has

-- the builder's last extent joins the others
pub all_few : (extents : List Extent) (last : Option Extent) (count : ℕ)
    → AreFewBuilt extents last (ids_built extents last count) count
    → AreFewBuilt (with_last extents last) None (ids_built (with_last extents last) None count) count
all_few extents last count it = record {
  built = subst (λ (ls : List Extent). AreBuilt (with_last extents last) (ids_of_extents ls count))
      (sym (append-nil (with_last extents last))) (all_built extents last (ids_built extents last count) it.built);
  fewer = omega (arith, it.fewer, ap (λ (ls : List Extent). length ls) (append-nil (with_last extents last)));
  few = it.few;
}

module _ (xs ys : List Extent) (last next : Option Extent) (count many : ℕ)
    (it : AreFewBuilt xs last (ids_built xs last count) count)
    (other : AreFewBuilt ys next (ids_built ys next many) many) where
  pub few_both : (ids more : List ℕ) → ids_built xs last count ≡ ids → ids_built ys next many ≡ more
      → length ids + length more < 2 ^ 32 → count + many < 2 ^ 32
  few_both ids more are are_more few = omega (
    arith,
    few,
    ap (λ (ns : List ℕ). length ns) are,
    ap (λ (ns : List ℕ). length ns) are_more,
    ids_count xs last count,
    ids_count ys next many,
  )

  -- no number is too large to be raised
  pub may_raise : count + many < 2 ^ 32 → (k : ℕ) → k < length (with_last ys next)
      → (extent_in (with_last ys next) k).first + count < 2 ^ 32
  may_raise few k h =
      let end = (all_built ys next (ids_built ys next many) other.built).before k h in
      omega (arith, end, ids_count ys next many, few)

  abbrev both : List Extent
  both = with_last xs last ++ map (raised_by count) (with_last ys next)

  -- the extents after `push_raised`
  pub both_extents : (extents front more : List Extent) → extents ≡ front ++ map (raised_by count) more
      → front ≡ with_last xs last → more ≡ with_last ys next → extents ≡ both
  both_extents extents front more are closed closed_more =
      rw (are, closed, closed_more)

  all_both : AreBuilt both (ids_built xs last count ++ ids_built ys next many)
  all_both =
      rw (ids_count xs last count)
      at (joined (with_last xs last) (with_last ys next) (ids_built xs last count) (ids_built ys next many)
      (all_built xs last (ids_built xs last count) it.built) (all_built ys next (ids_built ys next many) other.built))

  pub joined_ids : ids_built xs last count ++ ids_built ys next many ≡ ids_built both None (count + many)
  joined_ids =
      gives both None (ids_built xs last count ++ ids_built ys next many) (count + many) all_both
      (omega (
        arith,
        length-append (ids_built xs last count) (ids_built ys next many),
        ids_count xs last count,
        ids_count ys next many,
      ))

  pub joined_few : count + many < 2 ^ 32
      → AreFewBuilt both None (ids_built both None (count + many)) (count + many)
  joined_few few = record {
    built = subst (λ (ids : List ℕ). AreBuilt both ids) joined_ids all_both;
    fewer = omega (
      arith,
      it.fewer,
      other.fewer,
      length-append (with_last xs last) (map (raised_by count) (with_last ys next)),
      length-map (with_last ys next) (raised_by count),
      ap (λ (ls : List Extent). length ls) (append-nil both),
    );
    few = few;
  }
