-- The law implies that the numbers of an event are positions in the tables.
use Rattle.std.proofs.Common.{◌≡◌, ◌≢◌, ℕ, zero, suc, ◌+◌, ◌<◌, ◌≤◌, ◌^◌, List, [], ◌∷◌, length, get_or, set}
use Rattle.std.proofs.Common.{get_or-set_other, Option, Some, Contains, ap, sym, subst, refl, ◌∙◌, inl, inr}
use Rattle.std.proofs.Common.{⊎_elim, arith}
use Rattle.std.proofs.Math.ListN.{get_or-eq_default}
use Rattle.std.proofs.lemmas.List.Elements.{All-contains}
use Rattle.std.specs.Option.{ForSome}
use Rattle.std.proofs.lemmas.Bool.{cases_lt}
use mathlib.Core.Option.{some}
use Rattle.mark_core.proofs.Words.{Which, StandsAt, times, Account, look_of, no_share, account_at, IsThere, CanClaim}
use Rattle.mark_core.proofs.Words.{Listing, IsLawful, heads_of, marking_of, weight}
use Rattle.mark_core.proofs.Places.{at_below, at_get_or}
use Rattle.mark_core.proofs.Sums.{stands_times, terms_le}
use Rattle.mark_core.proofs.Chains.{chain_rest, recent_link}
use Rattle.mark_core.proofs.Ownership.{held_apart, top_stands, stacked_below, chain_top}
use Rattle.mark_core.proofs.Colours.{charged}

pub stands_at : {X : Type 0} (xs : List X) (i : ℕ) (d : X) → i < length xs → StandsAt xs i (get_or xs i d)
stands_at [] i d h = absurd (omega arith)
stands_at (x ∷ xs) zero d h = refl
stands_at (x ∷ xs) (suc i) d h = stands_at xs i d (omega arith)

pub stands_here : {X : Type 0} (xs : List X) (i : ℕ) (a : X) → i < length xs → a ≡ get_or xs i a → StandsAt xs i a
stands_here xs i a h e = stands_at xs i a h ∙ ap some (sym e)

-- an account that has a share exists at its number
pub is_there : (accounts : List Account) (v : ℕ) (a : Account) → IsThere accounts v a → (v < length accounts)
    × (0 < (account_at accounts v).share)
is_there accounts v a t = (
  at_below accounts v a t.0,
  subst (λ (x : Account). 0 < x.share) (sym (at_get_or accounts v a no_share t.0)) t.1,
)

-- a write at another place leaves what is read at w
pub read_past : (accounts : List Account) (v w : ℕ) (x a : Account) → w ≢ v → a ≡ get_or (set accounts v x) w a
    → a ≡ get_or accounts w a
read_past accounts v w x a other is = is ∙ get_or-set_other accounts v w x a other

module _ (s : Listing) (lawful : IsLawful s) where
  pub buffer_within : (q : Which) (i : ℕ) → (heads_of s q).index ≡ Some i → i < length s.slots
  buffer_within q i e =
      let m = marking_of s in
      let o = lawful.law.owned in
      let below = stacked_below s.setup.buffers m.head m.link m.accounts lawful.law.stack o q i
      (top_stands s.setup.buffers m.head m.link m.accounts lawful.law.stack o q i e) in
      omega (arith, lawful.slots)

  module _ (w : ℕ) (a : Account) (there : w < length s.accounts) (is : a ≡ get_or s.accounts w a) where
    here : StandsAt s.accounts w a
    here = stands_here s.accounts w a there is

    pub claim_within : (o : ℕ) → CanClaim s.setup o a → o < length s.marks
    claim_within o (inl root) =
        omega (arith, lawful.marks, All-contains (λ x. x < s.setup.objects) s.setup.roots o lawful.rooted root)
    claim_within o (inr p) = omega (
      arith,
      lawful.marks,
      (All-contains (λ x. (x.0 < s.setup.objects) × (x.1 < s.setup.objects)) s.setup.pairs
          (p.0, o) lawful.paired p.2).1,
    )

    pub charge_within : (o : ℕ) → Contains a.charge o → o < length s.marks
    charge_within o k =
        let m = marking_of s in
        let was = charged s.setup m.mark m.slots m.accounts lawful.law.coloured w a here o
        (stands_times a.charge o k) in
        ⊎_elim (λ low. low) (λ past. absurd (omega (arith, was.0, get_or-eq_default s.marks 0 {n = o} past)))
        (cases_lt o (length s.marks))

    pub held_within : (i : ℕ) → Contains a.held i → i < s.setup.buffers
    held_within i k = let m = marking_of s in
        (held_apart s.setup.buffers m.head m.link m.accounts lawful.law.stack lawful.law.owned w a here i
        (stands_times a.held i k)).0

    -- the link that a pop puts into the head fits there
    pub link_within : (q : Which) (i : ℕ) (l : Option ℕ) → (look_of a q).head ≡ Some (heads_of s q)
        → (heads_of s q).index ≡ Some i → (look_of a q).link ≡ Some l → ForSome l (λ j. j ≤ 65534)
    link_within q i l shows top linked =
        let m = marking_of s in
        let o = lawful.law.owned in
        let same = recent_link m.link (m.head q) (look_of a q) i l (o.recent q w a here) shows top linked in
        let rest = chain_rest m.link (m.head q).index (lawful.law.stack q) i (o.chain q) top in
        λ j e.
        let in_rest = chain_top m.link (m.link i) rest.0 j rest.2 (same ∙ e) in
        let in_stack : 0 < times j (lawful.law.stack q) = omega (arith, ap (times j) rest.1) in
        omega (
          arith,
          lawful.few,
          stacked_below s.setup.buffers m.head m.link m.accounts lawful.law.stack o q j
              in_stack,
        )

    pub idles_within : (v : ℕ) (b : Account) → v ≢ w → v < length s.accounts → b ≡ get_or s.accounts v b
        → a.idle + b.idle < 2 ^ 32
    idles_within v b other inside at =
        omega (
          arith,
          lawful.numbered,
          lawful.weights,
          terms_le weight s.accounts w v a b other here (stands_here s.accounts v b inside at),
        )

    pub shares_within : (v : ℕ) (b : Account) → v ≢ w → v < length s.accounts → b ≡ get_or s.accounts v b
        → a.share + b.share < 2 ^ 32
    shares_within v b other inside at =
        omega (
          arith,
          lawful.law.shared.sum,
          terms_le (λ (x : Account). x.share) s.accounts w v a b other here
              (stands_here s.accounts v b inside at),
        )
